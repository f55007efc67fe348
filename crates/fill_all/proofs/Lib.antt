pub mod Stores
pub mod After
pub mod Hot
pub mod Loop
pub mod Words
pub mod Asked
