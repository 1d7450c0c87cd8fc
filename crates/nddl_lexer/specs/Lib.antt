pub mod Bytes
pub mod Spelling
pub mod Reading
pub mod Scan
pub mod Faults
