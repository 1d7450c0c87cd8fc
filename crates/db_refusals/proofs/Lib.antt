pub mod Putting
pub mod Seen
pub mod First
pub mod Told
pub mod Full
pub mod Undecided
pub mod Resting
pub mod Typing
