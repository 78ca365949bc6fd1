pub mod Commands
pub mod Heads
pub mod Sessions
pub mod Tails
pub mod Unended
