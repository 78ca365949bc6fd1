pub mod Bad
pub mod Texts
pub mod Words
