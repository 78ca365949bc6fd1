pub mod Undone
pub mod Steps
