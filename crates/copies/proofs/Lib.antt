pub mod CopyLaws
pub mod Parts
