pub mod Word
pub mod NameOrder
pub mod Spelling
pub mod Readers
pub mod Laws
