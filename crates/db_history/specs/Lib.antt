pub mod Advancing
pub mod Seated
pub mod Standing
pub mod Kept
pub mod Subjects
pub mod Settled
