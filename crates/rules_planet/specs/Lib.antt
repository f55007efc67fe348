pub mod Planet
pub mod Worked
