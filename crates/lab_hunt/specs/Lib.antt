pub mod Finds
pub mod Tries
