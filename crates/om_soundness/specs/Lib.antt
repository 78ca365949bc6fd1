pub mod Standing
pub mod Running
pub mod Ints
pub mod Reasons
pub mod Laws
pub mod Alone
pub mod AloneLaws
