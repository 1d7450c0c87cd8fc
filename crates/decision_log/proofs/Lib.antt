pub mod Places
pub mod Lists
pub mod Taking
pub mod Telling
