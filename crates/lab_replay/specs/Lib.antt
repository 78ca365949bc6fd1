pub mod Manners
pub mod Said
pub mod Traces
