pub mod Blueprints
pub mod Construction
pub mod Finished
pub mod Made
pub mod Modelled
pub mod Objects
pub mod Settings
