pub mod Landmarks
pub mod Parallels
pub mod Tables
pub mod Stacked
pub mod Seen
pub mod Marks
pub mod Lookups
