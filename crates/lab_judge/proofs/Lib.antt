pub mod Moves
pub mod Judging
pub mod Texts
