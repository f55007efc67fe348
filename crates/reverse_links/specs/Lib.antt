pub mod Reverse
pub mod Words
