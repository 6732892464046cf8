pub mod Encoding
pub mod Theorems
pub mod Examples
