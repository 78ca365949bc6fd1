mod Lists
pub mod Returns
pub mod Same
mod Variables
