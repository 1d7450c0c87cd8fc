pub mod Finding
pub mod Noting
pub mod Sharing
