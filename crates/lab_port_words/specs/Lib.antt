pub mod Classes
pub mod Texts
pub mod Tables
