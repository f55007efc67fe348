pub mod Lent
pub mod Worked
