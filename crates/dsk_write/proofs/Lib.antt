pub mod Stores
pub mod Joined
pub mod Sizes
pub mod Puts
pub mod Outcome
