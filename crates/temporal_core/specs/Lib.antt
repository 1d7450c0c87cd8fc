pub mod Network
pub mod Schedule
pub mod Cycle
pub mod Satisfied
pub mod Bounds
pub mod Canonical
pub mod TimeBounds
