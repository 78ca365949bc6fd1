pub mod Arguments
pub mod Workers
