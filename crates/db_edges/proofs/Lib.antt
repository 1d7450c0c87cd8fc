pub mod Appending
pub mod Spans
pub mod Pointing
pub mod Falling
pub mod Going
pub mod Joining
pub mod Posted
pub mod Settled
