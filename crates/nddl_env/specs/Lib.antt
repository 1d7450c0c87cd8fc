pub mod Listing
pub mod Objects
pub mod Shapes
pub mod Sharing
pub mod Lexicons
