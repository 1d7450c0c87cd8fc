pub mod Words
pub mod Commands
pub mod Requests
pub mod Laws
