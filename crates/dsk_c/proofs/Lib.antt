pub mod UncutCodes
pub mod LentImage
pub mod Rows
