pub mod Loops
pub mod Lists
pub mod Tests
pub mod Stores
pub mod Parts
pub mod Regions
