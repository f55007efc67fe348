pub mod Alike
pub mod Starts
