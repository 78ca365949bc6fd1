pub mod Contexts
pub mod Ahead
pub mod Facts
