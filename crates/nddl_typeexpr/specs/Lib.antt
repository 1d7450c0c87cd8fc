pub mod Bases
pub mod Bounds
pub mod Kinds
pub mod Members
pub mod Types
pub mod Values
