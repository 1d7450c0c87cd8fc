pub mod Numbers
pub mod Names
pub mod Past
pub mod Ranks
pub mod Children
pub mod Keeping
