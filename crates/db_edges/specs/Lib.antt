pub mod Adding
pub mod Edges
pub mod Points
pub mod Sites
pub mod Walking
pub mod Whole
pub mod TimeCycle
