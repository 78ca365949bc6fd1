mod Counting
pub mod Leaving
mod Partition
mod Tables
mod Values
