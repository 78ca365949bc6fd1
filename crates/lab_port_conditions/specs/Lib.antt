pub mod Headers
pub mod Kinds
pub mod States
pub mod Places
