pub mod Findings
pub mod Scripts
pub mod Answers
