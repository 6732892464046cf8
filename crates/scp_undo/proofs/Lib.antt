pub mod Layouts
pub mod Restoring
pub mod TakesBack
pub mod Fewer
pub mod Asking
pub mod Rows
pub mod Replays
