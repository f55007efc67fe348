pub mod Comes
pub mod Tests
