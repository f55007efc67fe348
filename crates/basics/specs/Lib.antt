pub mod Loops
pub mod Regions
pub mod Floats
pub mod Lists
pub mod Worked
