mod Granting
mod Seeing
mod Coming
mod Resulting
