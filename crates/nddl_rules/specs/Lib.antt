pub mod Reads
pub mod Sight
pub mod Tally
pub mod Blocks
pub mod Lists
pub mod Written
pub mod Collected
pub mod Told
