pub mod Lists
pub mod Rolls
pub mod Answering
