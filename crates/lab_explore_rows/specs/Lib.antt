pub mod WordTables
pub mod Tables
pub mod Rows
pub mod Puts
pub mod Laws
pub mod NumberFacts
pub mod RowFacts
