pub mod ActLemmas
pub mod WayLemmas
pub mod RoundLemmas
pub mod SearchLemmas
pub mod NextLemmas
pub mod BeginLemmas
