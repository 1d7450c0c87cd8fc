pub mod Tokens
pub mod Orders
pub mod Kept
pub mod Pieces
pub mod Listed
