pub mod Evals
pub mod Offered
pub mod Answers
pub mod Claims
mod Carried
