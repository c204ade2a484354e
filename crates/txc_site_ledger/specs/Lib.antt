pub mod Attempts
pub mod ChangeResult
pub mod CommitCounter
pub mod Histories
pub mod RetiredPins
