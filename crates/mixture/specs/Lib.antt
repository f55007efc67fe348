pub mod Held
pub mod Accepted
