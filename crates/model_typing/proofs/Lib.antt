pub mod Accessing
pub mod Comparing
pub mod Each
mod Lined
mod Rising
mod Tabling
pub mod Telling
pub mod Under
pub mod Upward
