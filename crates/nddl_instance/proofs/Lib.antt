pub mod Listed
pub mod Putting
pub mod Alone
