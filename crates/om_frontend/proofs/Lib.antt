pub mod OneVerdicts
pub mod Refusals
