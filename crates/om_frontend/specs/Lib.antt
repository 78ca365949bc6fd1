pub mod Laws
pub mod Verdict
