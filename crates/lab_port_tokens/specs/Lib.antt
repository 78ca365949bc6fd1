pub mod Characters
pub mod Scans
pub mod Pieces
