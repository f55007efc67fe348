pub mod Edges
pub mod Plan
pub mod Worked
