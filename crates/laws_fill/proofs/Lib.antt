pub mod Steps
pub mod Counts
pub mod Joins
pub mod Owned
pub mod Rest
