pub mod Beginning
pub mod Chains
pub mod Climbing
pub mod Fewer
pub mod Jumping
pub mod Known
pub mod Lists
pub mod Marking
pub mod Telling
pub mod Unseen
pub mod Ways
pub mod Marked
mod Sharing
mod Handing
