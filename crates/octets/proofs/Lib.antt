pub mod Numbers
pub mod Splits
pub mod Sums
