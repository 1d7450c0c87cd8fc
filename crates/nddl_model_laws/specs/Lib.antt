pub mod Faultless
pub mod Ruled
pub mod Tabled
pub mod Counted
pub mod Named
pub mod Joined
pub mod Valued
