pub mod Adding
pub mod Splitting
pub mod Answering
