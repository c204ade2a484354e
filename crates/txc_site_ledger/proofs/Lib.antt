pub mod Crosses
mod Tried
