pub mod Book
pub mod Claim
