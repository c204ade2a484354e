pub mod DocumentSettings
pub mod Keys
