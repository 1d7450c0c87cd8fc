pub mod TakingUp
pub mod RootItems
pub mod Merging
