pub mod Texts
pub mod Written
pub mod Places
pub mod Portings
pub mod Warnings
pub mod Names
pub mod Listings
pub mod Tallies
