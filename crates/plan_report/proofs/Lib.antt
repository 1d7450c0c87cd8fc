pub mod Placing
pub mod Ranging
pub mod Answering
pub mod Printing
pub mod Telling
