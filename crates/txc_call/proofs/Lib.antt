pub mod Claims
pub mod Answering
pub mod OpenFrames
pub mod Stacks
pub mod Transitions
pub mod OneAsk
pub mod Offered
pub mod Keeping
