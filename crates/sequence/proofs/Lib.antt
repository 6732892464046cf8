pub mod CallLaws
pub mod Running
pub mod ReplayLaws
