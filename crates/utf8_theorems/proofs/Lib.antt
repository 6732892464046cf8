pub mod Sequences
pub mod Meaning
pub mod Examples
