pub mod Fill
pub mod Worked
