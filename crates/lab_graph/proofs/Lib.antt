pub mod Ranked
pub mod Adding
pub mod Exactly
