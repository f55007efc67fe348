pub mod Arrows
pub mod Worked
