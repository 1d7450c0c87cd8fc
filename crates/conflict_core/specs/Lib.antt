pub mod Turns
pub mod Answers
pub mod Points
pub mod Walks
