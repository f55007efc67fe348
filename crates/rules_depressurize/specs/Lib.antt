pub mod Depressurize
pub mod Worked
