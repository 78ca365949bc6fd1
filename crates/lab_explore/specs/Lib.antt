pub mod Acts
pub mod Searches
