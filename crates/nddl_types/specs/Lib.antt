pub mod Classes
pub mod Grounds
pub mod Predicates
pub mod Scoped
pub mod Table
