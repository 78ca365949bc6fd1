pub mod Orders
pub mod Races
pub mod Sweeps
