pub mod Offered
pub mod Options
pub mod Pins
