pub mod Lengths
pub mod Lines
pub mod Steps
pub mod Takes
pub mod Stands
pub mod Feeds
pub mod Wholes
