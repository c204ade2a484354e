mod Cited
pub mod Longer
pub mod Meanings
pub mod Cores
pub mod Offered
pub mod Sessions
pub mod Held
mod ByHand
