pub mod Barriers
pub mod Chunks
pub mod Rows
pub mod Iterations
pub mod RowParts
pub mod Table
