pub mod Outward
pub mod Room
