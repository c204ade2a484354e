pub mod Activities
pub mod Places
pub mod Repeats
pub mod Offered
