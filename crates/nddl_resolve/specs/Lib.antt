pub mod Fields
pub mod Files
pub mod Following
pub mod Kinds
pub mod Paths
pub mod Predicates
pub mod Seen
