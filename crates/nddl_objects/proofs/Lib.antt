pub mod Deeper
mod Setting
pub mod Going
pub mod Placing
