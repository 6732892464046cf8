pub mod Chain
pub mod Loops
pub mod Finding
pub mod Answers
pub mod Passing
