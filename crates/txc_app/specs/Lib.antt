pub mod AnswersSoFar
pub mod Claims
pub mod EachAfter
pub mod Eval
pub mod Laws
