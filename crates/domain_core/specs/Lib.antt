pub mod Domain
pub mod Narrowing
pub mod Intervals
pub mod Forms
pub mod Lists
pub mod Laws
pub mod Consistency
pub mod Constraints
