pub mod Slots
pub mod Touches
pub mod Lists
pub mod Searches
pub mod Workers
pub mod Controls
pub mod Accesses
