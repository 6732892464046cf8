pub mod WordLaws
pub mod TimeLaws
pub mod Wrote
pub mod Beside
pub mod AnswerLaws
pub mod Counting
pub mod ReadInto
