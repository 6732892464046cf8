pub mod Questions
pub mod Answers
pub mod Theorems
