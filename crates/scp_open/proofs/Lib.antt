pub mod Table
pub mod Opens
pub mod OpenLaws
