pub mod Adding
pub mod Pairs
pub mod Walking
