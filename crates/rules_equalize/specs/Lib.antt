pub mod Equalize
pub mod Clock
pub mod Result
pub mod Same
pub mod Worked
