pub mod Back
pub mod Stores
