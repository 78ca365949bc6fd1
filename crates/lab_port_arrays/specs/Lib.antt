pub mod Numbers
pub mod Constants
pub mod Brackets
pub mod Declarations
pub mod Shapes
pub mod Places
pub mod Written
