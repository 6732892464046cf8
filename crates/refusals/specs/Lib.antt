pub mod Refusals
pub mod Search
