pub mod Faults
pub mod Database
pub mod Answers
pub mod Stamps
pub mod Edges
pub mod Rewinding
