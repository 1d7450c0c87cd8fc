mod Gathering
pub mod Following
mod Completing
pub mod Counting
pub mod Placing
