pub mod Depends
pub mod Settled
pub mod Counting
pub mod Placing
pub mod Steps
pub mod Telling
pub mod Unnamed
