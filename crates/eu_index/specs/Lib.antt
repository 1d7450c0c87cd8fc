pub mod Hiding
pub mod Index
