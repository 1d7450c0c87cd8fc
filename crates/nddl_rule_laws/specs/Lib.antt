pub mod Grounds
pub mod Meanings
