pub mod Sides
pub mod Logs
