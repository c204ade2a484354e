pub mod Laws
pub mod PinLease
pub mod Ports
pub mod RoTxn
pub mod Run
pub mod Sessions
