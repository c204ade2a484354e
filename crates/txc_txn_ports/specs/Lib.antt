pub mod Answers
pub mod Codes
pub mod Exchanges
pub mod Fronts
pub mod PortRequests
pub mod Refusals
pub mod Turns
