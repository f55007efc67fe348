pub mod Zones
pub mod Plans
pub mod Calls
pub mod Asked
