pub mod Solving
pub mod Visiting
pub mod Underway
pub mod Ending
