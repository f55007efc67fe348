pub mod Order
pub mod Lookup
pub mod Refused
pub mod Accepted
pub mod Tables
pub mod Line
pub mod Near
