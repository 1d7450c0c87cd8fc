pub mod Lists
pub mod Blocks
pub mod Equal
pub mod Paths
