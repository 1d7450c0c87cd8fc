pub mod Swapping
pub mod Under
pub mod SwapLaws
pub mod Grounds
pub mod Choices
pub mod Search
pub mod SearchLaws
pub mod Outcomes
