pub mod Formats
pub mod Statements
pub mod Printed
pub mod Places
