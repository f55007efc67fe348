pub mod Board
pub mod Refuse
pub mod Draw
pub mod Worked
