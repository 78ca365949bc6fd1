pub mod FrameLemmas
pub mod SetLemmas
pub mod TouchedLemmas
