mod Bodies
mod Returns
mod Shown
mod Tallies
