mod Answering
pub mod Asking
mod Classes
mod Numbers
mod Reading
mod Rules
mod Taken
mod Taking
mod Turns
