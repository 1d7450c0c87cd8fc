pub mod Judged
pub mod Items
pub mod ByObject
pub mod Turns
pub mod Acts
