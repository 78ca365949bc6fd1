pub mod Parts
pub mod TargetViews
pub mod Views
pub mod Declares
pub mod Lists
pub mod Expressions
pub mod Bounds
pub mod Keeps
