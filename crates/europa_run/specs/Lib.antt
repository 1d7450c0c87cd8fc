pub mod Halts
pub mod Laws
pub mod Output
pub mod Pieces
pub mod Runs
pub mod Steps
