pub mod Names
pub mod Meant
pub mod Offered
