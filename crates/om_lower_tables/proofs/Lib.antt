mod Auto
pub mod Cells
pub mod Copied
pub mod Noting
pub mod Ending
pub mod SiteBodies
pub mod Noted
pub mod Rooms
pub mod Weights
