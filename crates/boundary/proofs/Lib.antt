pub mod ExactCodes
pub mod SmallCodes
pub mod GivenValues
pub mod CodeAndBuffer
