pub mod Choices
pub mod Listing
pub mod Counting
pub mod Turning
pub mod Limits
pub mod Finding
pub mod Entries
