pub mod Editions
pub mod Header
pub mod Footer
