pub mod Seeds
pub mod Schedules
pub mod Reports
