pub mod Filling
pub mod Placing
pub mod Judging
pub mod KeptTypes
mod Building
pub mod Finding
mod KeptClasses
pub mod Props
