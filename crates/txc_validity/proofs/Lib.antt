pub mod ValidityLemmas
pub mod OneTag
pub mod Edges
pub mod Passes
