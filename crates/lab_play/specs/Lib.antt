pub mod Entries
pub mod Seeds
