pub mod NoPass
mod NodesKept
mod Tending
