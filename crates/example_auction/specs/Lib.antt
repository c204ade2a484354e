pub mod Auction
pub mod Bids
pub mod Objects
pub mod Pages
pub mod Tallies
