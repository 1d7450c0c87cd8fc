pub mod Laws
pub mod Meanings
pub mod Products
pub mod Sides
pub mod Sweeps
pub mod Truths
pub mod Tables
