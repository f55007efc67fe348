pub mod Boards
pub mod Pops
pub mod Zones
