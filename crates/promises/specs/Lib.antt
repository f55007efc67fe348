pub mod ReadsBack
pub mod Arrows
