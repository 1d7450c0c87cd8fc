pub mod Indexing
pub mod Naming
pub mod Noting
pub mod Subjecting
pub mod Telling
pub mod Valuing
