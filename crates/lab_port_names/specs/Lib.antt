pub mod Sights
pub mod Names
pub mod Macros
pub mod Enumerations
pub mod Types
pub mod Definitions
pub mod Uses
