pub mod Labels
pub mod ArgumentSteps
pub mod Seeing
pub mod Steps
