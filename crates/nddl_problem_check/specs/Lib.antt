pub mod Acts
pub mod Posted
pub mod Texts
pub mod Fitness
pub mod Limits
pub mod Made
pub mod Posts
pub mod Sound
