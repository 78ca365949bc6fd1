pub mod Parts
pub mod Passing
pub mod Sources
