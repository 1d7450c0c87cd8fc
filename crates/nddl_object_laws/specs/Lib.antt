pub mod Carried
pub mod Made
pub mod Wrong
pub mod Told
