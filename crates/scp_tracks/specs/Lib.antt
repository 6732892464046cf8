pub mod Tracks
pub mod Revolutions
