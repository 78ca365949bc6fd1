pub mod Shapes
pub mod Lengths
pub mod Places
