pub mod Questions
pub mod Lookups
