pub mod Steps
pub mod Cones
pub mod Runs
pub mod Sessions
