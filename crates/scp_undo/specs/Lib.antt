pub mod Layout
pub mod Undoing
pub mod Replaying
