pub mod SameLemmas
pub mod NoteLemmas
pub mod RaceLemmas
