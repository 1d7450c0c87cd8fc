pub mod Picks
pub mod Actors
pub mod Effects
pub mod Fits
pub mod Completeness
pub mod Touching
