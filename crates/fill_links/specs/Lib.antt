pub mod Steps
pub mod Held
pub mod Asked
