pub mod Fills
pub mod Order
pub mod Sites
pub mod Steps
pub mod Stretches
pub mod Earliest
pub mod Firsts
pub mod Indexes
