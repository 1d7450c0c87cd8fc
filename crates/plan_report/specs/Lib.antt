pub mod Naming
pub mod Verdicts
pub mod Counting
pub mod Laws
