pub mod ShareLaws
pub mod CellLaws
pub mod LockLaws
