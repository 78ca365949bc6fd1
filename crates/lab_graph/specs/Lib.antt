pub mod Pictures
pub mod Ranks
