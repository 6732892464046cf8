pub mod HeaderFault
