pub mod Claims
pub mod Growth
pub mod GrowthLaws
pub mod Progress
pub mod Coming
pub mod ProgressLaws
