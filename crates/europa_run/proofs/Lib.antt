mod Comings
mod Halting
mod Once
mod Planned
mod Printing
pub mod Ranging
mod Requests
mod Scripted
mod Scripts
mod Searching
mod Stepping
mod Tried
mod Written
