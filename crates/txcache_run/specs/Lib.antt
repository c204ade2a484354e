pub mod Modes
pub mod Registries
