pub mod Images
pub mod Writing
pub mod Steps
