pub mod Lists
pub mod Words
pub mod Values
pub mod Objects
pub mod Laws
