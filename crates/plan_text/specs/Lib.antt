pub mod Words
pub mod Found
pub mod Values
pub mod Subjects
pub mod Lines
pub mod PlanTexts
pub mod Writing
pub mod Existence
