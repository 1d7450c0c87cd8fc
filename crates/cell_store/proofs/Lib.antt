pub mod Rewriting
pub mod Lists
pub mod Views
pub mod Returning
pub mod Entries
pub mod Stepping
