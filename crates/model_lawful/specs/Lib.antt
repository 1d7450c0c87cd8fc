pub mod Classes
pub mod Parts
pub mod Naming
pub mod Preds
pub mod Wholes
pub mod Alike
