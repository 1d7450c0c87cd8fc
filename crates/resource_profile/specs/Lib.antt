pub mod Instant
pub mod Usage
pub mod Level
