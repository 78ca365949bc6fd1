pub mod WordTableLemmas
pub mod CutLemmas
pub mod RowLemmas
pub mod TableLemmas
