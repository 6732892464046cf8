pub mod RevolutionLaws
