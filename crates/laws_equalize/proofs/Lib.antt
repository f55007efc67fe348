pub mod Apart
pub mod Hot
pub mod Ends
pub mod Demand3
pub mod Zones
pub mod Room
pub mod Tests
