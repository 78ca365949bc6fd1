pub mod Drawings
pub mod Appending
