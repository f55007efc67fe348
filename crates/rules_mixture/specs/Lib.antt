pub mod Mixture
pub mod Worked
