pub mod Pairs
pub mod Stores
pub mod Links
pub mod Nodes
pub mod Adjusts
