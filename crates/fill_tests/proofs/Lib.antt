pub mod Near
pub mod Passed
