pub mod Slices
pub mod Reading
pub mod ReadingBack
