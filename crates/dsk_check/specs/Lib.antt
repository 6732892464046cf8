pub mod Faults
pub mod Validity
pub mod Steps
