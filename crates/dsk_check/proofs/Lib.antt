pub mod Infos
pub mod Results
pub mod Accepting
