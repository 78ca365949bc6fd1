mod Auto
pub mod Items
pub mod Commas
pub mod Targets
pub mod Arguments
