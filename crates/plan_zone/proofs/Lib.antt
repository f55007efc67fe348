pub mod Counts
pub mod Lists
pub mod Whole
