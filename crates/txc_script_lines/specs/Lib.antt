pub mod Faults
pub mod LineWords
pub mod Names
