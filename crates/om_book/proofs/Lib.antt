pub mod Counting
pub mod Pigeons
pub mod Backed
pub mod Distinct
