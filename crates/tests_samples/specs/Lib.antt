pub mod Pieces
pub mod Mission
pub mod Rounds
