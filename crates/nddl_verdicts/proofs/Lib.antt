pub mod Lineages
pub mod Meanings
pub mod Placing
pub mod Texts
pub mod Making
pub mod Limiting
pub mod Filed
pub mod Judging
