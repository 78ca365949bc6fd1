pub mod Libraries
pub mod Codes
pub mod Directives
pub mod Marks
