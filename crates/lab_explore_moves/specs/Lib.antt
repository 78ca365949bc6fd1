pub mod Letters
pub mod Possible
pub mod Endings
