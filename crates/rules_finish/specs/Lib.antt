pub mod Finish
pub mod Turns
pub mod Worked
pub mod Lifted
