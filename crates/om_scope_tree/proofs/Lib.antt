mod Auto
pub mod FoundBehind
