pub mod Alike
pub mod Joining
pub mod Lining
pub mod Scoping
pub mod Tokening
pub mod Fronts
pub mod Ruling
pub mod Counting
