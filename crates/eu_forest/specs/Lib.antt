pub mod Ancestors
pub mod Lines
pub mod Shortcuts
pub mod Walks
pub mod Members
