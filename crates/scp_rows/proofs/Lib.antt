pub mod RowLaws
pub mod NoNan
pub mod KindLaws
