pub mod Extents
pub mod Claims
pub mod RewriteFault
pub mod Sharing
pub mod Walk
