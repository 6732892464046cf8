pub mod Rewriting
pub mod Answering
pub mod Steps
pub mod OneRewrite
