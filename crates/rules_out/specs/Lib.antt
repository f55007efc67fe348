pub mod Out
pub mod Worked
