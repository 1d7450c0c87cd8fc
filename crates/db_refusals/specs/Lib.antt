pub mod InOrder
pub mod Seeing
pub mod ViewLaws
pub mod Reasons
pub mod Judging
pub mod Typing
