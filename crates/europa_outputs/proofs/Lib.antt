mod Reading
mod Posing
mod Printing
mod Searching
mod Running
