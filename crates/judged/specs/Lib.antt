pub mod Judge
pub mod Rows
