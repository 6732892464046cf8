pub mod Boundary
pub mod Theorems
