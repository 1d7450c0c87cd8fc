pub mod Keys
pub mod Values
pub mod Meanings
pub mod Truths
pub mod Openings
pub mod Walks
pub mod Bases
