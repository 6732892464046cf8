pub mod HeaderTests
pub mod HeaderFault
