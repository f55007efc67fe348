pub mod Signs
pub mod Backs
pub mod Ways
