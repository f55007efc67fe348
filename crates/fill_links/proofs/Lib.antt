pub mod Does
pub mod Stores
pub mod Asks
pub mod Bounds
pub mod Links
