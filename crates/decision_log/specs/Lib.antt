pub mod Kept
pub mod Undoing
pub mod Taking
