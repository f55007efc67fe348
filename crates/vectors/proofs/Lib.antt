pub mod Cells
pub mod Patterns
pub mod Places
