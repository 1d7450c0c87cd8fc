pub mod Reading
pub mod Openings
pub mod Gathering
pub mod Laws
