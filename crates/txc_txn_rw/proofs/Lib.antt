pub mod Commits
mod Counting
pub mod Holding
pub mod Lists
pub mod Reached
mod Turns
mod Resting
mod Running
mod ByHand
