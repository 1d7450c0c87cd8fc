pub mod Ground
pub mod Lines
pub mod Members
pub mod Terms
