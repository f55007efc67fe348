pub mod Trades
pub mod Lessers
pub mod Nears
pub mod Seeks
pub mod Passes
