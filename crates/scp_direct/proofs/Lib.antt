pub mod DirectLaws
