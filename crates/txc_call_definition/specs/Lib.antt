pub mod FixedAsks
pub mod HeldActivity
pub mod OneOf
pub mod Pools
