pub mod Words
pub mod Canonical
pub mod Laws
