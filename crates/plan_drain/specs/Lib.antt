pub mod Drain
