pub mod Theorems
pub mod Direct
