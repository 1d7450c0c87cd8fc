pub mod Known
pub mod Ascending
pub mod Declares
pub mod Domains
pub mod Classes
pub mod Members
pub mod Faults
