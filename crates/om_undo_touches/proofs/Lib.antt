pub mod SpanLemmas
pub mod SlotLemmas
pub mod CellLemmas
pub mod PartLemmas
pub mod RangeLemmas
pub mod Forgetting
pub mod ConflictLemmas
