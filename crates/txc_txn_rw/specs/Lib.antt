pub mod Answers
pub mod ByHand
pub mod Laws
pub mod Outcomes
pub mod RwCore
pub mod RwTxn
pub mod Transitions
