pub mod Opening
pub mod Validity
