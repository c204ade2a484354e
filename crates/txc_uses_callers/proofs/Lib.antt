pub mod Asking
pub mod Valued
pub mod Kept
