pub mod Places
pub mod Escapes
pub mod Marks
pub mod Objects
pub mod Strokes
pub mod Pages
