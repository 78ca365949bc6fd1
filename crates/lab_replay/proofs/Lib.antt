pub mod Entries
pub mod Numbers
pub mod Remade
pub mod Replays
