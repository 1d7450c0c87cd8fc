pub mod Seeing
pub mod Steps
pub mod Putting
pub mod Telling
