pub mod Lists
pub mod Runs
pub mod Closed
pub mod Starts
pub mod Endings
pub mod Races
pub mod Explored
