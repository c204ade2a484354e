pub mod Activity
pub mod Objects
