pub mod Tapes
pub mod Plain
pub mod Inverses
pub mod Trails
pub mod Memories
pub mod Faults
pub mod Changed
