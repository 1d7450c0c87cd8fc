mod Building
pub mod Noting
pub mod Numbering
mod Rooted
mod Seeking
