pub mod Joined
pub mod Place
pub mod Builtin
pub mod Finding
pub mod Names
pub mod Scope
pub mod Repeats
