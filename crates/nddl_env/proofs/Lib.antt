pub mod Adding
mod Numbering
mod Populating
