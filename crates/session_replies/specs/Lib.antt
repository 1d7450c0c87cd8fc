pub mod Lines
pub mod Writable
pub mod Written
pub mod Texts
pub mod Reading
pub mod Existence
