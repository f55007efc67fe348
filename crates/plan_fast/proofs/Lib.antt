pub mod Moves
pub mod Fast
