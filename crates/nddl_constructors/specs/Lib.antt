pub mod Bodies
pub mod Constants
pub mod Creations
pub mod Formals
pub mod Objects
pub mod Wanted
pub mod Wants
