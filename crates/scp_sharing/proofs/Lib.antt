pub mod Meeting
pub mod ClaimLaws
pub mod Asked
pub mod SharedBytes
pub mod Accepted
