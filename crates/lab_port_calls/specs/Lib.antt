pub mod Lists
pub mod Functions
pub mod Written
pub mod Places
