pub mod Answering
pub mod Stamping
pub mod Edging
mod TakenBack
