pub mod Whole
pub mod Left
pub mod Things
