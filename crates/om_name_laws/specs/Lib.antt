pub mod Sees
pub mod NameLaws
pub mod SourceLaws
pub mod GlobalLaws
