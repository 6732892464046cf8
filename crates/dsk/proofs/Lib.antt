pub mod Asking
pub mod FoundLaws
