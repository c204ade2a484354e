pub mod WorldSteps
pub mod TaskNames
pub mod TasksDone
pub mod WrittenOneWay
pub mod GivingUp
pub mod WorldTexts
pub mod NothingWrong
pub mod Answering
