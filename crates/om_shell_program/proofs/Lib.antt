pub mod Entries
pub mod Defaults
