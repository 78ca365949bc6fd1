pub mod Freeing
pub mod Rounding
pub mod Places
pub mod Stepping
pub mod OwnCalls
pub mod Sent
pub mod Turns
