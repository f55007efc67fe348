pub mod Outed
