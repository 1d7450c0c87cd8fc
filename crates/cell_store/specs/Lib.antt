pub mod Cells
pub mod Kept
pub mod Writing
pub mod Trails
