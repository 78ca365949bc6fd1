pub mod Touched
pub mod Standings
pub mod Sets
