pub mod Numbers
pub mod Editions
pub mod Validating
pub mod Tracks
pub mod Durations
pub mod Speeds
pub mod Direct
pub mod LooksOnly
