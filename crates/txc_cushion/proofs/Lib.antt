pub mod Falling
pub mod HandedOut
pub mod HandingOut
pub mod InOrder
pub mod Adding
pub mod UserCounts
pub mod Counts
pub mod Offered
