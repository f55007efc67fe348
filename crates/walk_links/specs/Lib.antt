pub mod Does
pub mod Reached
