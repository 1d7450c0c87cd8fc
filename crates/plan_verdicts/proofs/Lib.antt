pub mod Firsts
pub mod Breaking
pub mod Reading
pub mod Gathering
pub mod Naming
pub mod Checking
