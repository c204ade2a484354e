pub mod Crosses
mod GoesOver
mod Guests
mod Listing
mod NodeHistories
pub mod Tended
