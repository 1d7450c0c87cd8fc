pub mod Moves
pub mod Untold
