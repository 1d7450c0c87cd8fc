pub mod Ancestors
pub mod Decls
pub mod Facts
pub mod Lines
pub mod Members
pub mod Rounds
pub mod Shorter
pub mod Inherited
