pub mod Sorts
pub mod Symbols
pub mod Readers
pub mod Exact
pub mod Grammar
pub mod Productions
