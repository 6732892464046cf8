pub mod EverySequence
pub mod Appending
