pub mod Frame
pub mod Moving
pub mod Patching
pub mod Outcome
pub mod Checksums
pub mod Keeping
pub mod Kept
pub mod AfterRewrite
