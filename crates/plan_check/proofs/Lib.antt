pub mod Itemizing
pub mod Linking
pub mod Turning
pub mod Suited
pub mod Using
pub mod Rising
pub mod Sorting
