pub mod CallMachine
pub mod CallSteps
pub mod Codes
pub mod Frames
pub mod Laws
pub mod MachineTurn
pub mod Needs
pub mod Reaches
