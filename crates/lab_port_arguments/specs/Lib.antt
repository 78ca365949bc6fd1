pub mod Tallies
pub mod Places
