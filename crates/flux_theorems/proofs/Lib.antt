pub mod Counting
pub mod Closing
pub mod Stepping
pub mod RoundTrips
pub mod Summing
pub mod Inexpressible
