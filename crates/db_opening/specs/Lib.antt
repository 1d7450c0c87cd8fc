pub mod Bringing
pub mod Opened
pub mod Parts
pub mod Arriving
pub mod Begun
pub mod Beginning
