pub mod Validating
pub mod Answers
