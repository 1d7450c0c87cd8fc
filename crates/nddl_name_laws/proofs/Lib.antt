pub mod Making
pub mod Progress
pub mod Names
pub mod Labels
pub mod Trees
