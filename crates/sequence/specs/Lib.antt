pub mod Calls
pub mod Replaying
