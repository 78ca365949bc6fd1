pub mod Asked
pub mod Kinds
pub mod Walks
pub mod Sayings
pub mod Untils
pub mod Expansions
