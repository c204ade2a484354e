pub mod ByHand
pub mod Laws
pub mod Meaning
pub mod RunningTxn
pub mod Sessions
pub mod Transitions
pub mod TxnCore
