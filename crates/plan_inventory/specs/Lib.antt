pub mod Bases
pub mod Breaks
pub mod Marking
pub mod Recalling
pub mod Asking
pub mod Verdicts
