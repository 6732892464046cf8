pub mod Coding
pub mod Reading
pub mod Writing
pub mod Answers
