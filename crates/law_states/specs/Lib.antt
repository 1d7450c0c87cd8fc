pub mod OwnStates
pub mod Soundness
pub mod LeastStates
pub mod Conflicts
pub mod Undeniable
