pub mod Declaring
pub mod Finding
pub mod Suiting
pub mod Sweeping
pub mod Marking
pub mod Recalling
pub mod Chaining
