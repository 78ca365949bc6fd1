pub mod Shapes
pub mod Values
pub mod Arrays
pub mod Places
