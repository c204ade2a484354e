pub mod Codes
pub mod Cushion
pub mod Entries
pub mod Laws
pub mod Pin
pub mod Pincushion
pub mod Refusals
