pub mod Guards
pub mod Lists
pub mod Places
pub mod Contents
