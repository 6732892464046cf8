pub mod Texts
pub mod Strides
pub mod Parts
