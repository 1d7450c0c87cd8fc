mod Ordering
mod Finding
mod Sorting
mod Telling
mod Gathering
mod Numbering
mod Valuing
mod Existing
mod Stated
pub mod Resting
pub mod Proving
