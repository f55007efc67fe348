pub mod Begun
pub mod Settings
pub mod Led
pub mod Leads
