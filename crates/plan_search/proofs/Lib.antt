pub mod Rows
pub mod Passes
pub mod Search
pub mod Skips
pub mod Serves
