pub mod Shop
pub mod Trade
