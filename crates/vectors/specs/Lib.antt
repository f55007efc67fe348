pub mod Amounts
pub mod Vectors
pub mod Cells
