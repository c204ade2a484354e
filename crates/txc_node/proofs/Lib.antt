pub mod Best
pub mod Walk
pub mod Apart
pub mod Moves
pub mod Inserts
pub mod LawLemmas
pub mod ReplayLemmas
mod Dropped
pub mod Swept
mod Counting
pub mod Offered
pub mod Positions
pub mod KeyReaches
pub mod KeyLists
pub mod Fronts
pub mod Closings
pub mod Invalidated
pub mod Lasts
pub mod Listed
pub mod Buckets
pub mod Puts
pub mod Pairs
pub mod Sweepings
pub mod Lasting
pub mod Weights
pub mod Trims
pub mod History
