pub mod Turning
pub mod Telling
pub mod Ordering
pub mod Naming
pub mod Copying
