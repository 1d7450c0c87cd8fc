pub mod Compiled
pub mod Known
pub mod Outcomes
pub mod Outlined
pub mod Stocked
pub mod Told
