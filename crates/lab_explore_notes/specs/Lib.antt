pub mod Same
pub mod Notes
