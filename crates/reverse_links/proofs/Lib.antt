pub mod Firsts
pub mod Places
pub mod Pairs
pub mod Accepted
