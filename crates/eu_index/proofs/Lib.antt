pub mod Hiding
pub mod Indexes
