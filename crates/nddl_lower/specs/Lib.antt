pub mod Arguments
pub mod Calls
pub mod Compared
pub mod Locals
pub mod Slots
