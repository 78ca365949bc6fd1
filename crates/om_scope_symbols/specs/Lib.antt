pub mod Stacks
pub mod Sightings
pub mod Landmarks
pub mod Nesting
