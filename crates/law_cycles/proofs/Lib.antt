mod Raised
mod Canonical
mod Pointed
pub mod Cycling
mod Listed
pub mod Edging
