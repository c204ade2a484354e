pub mod Rules
pub mod Calls
pub mod Numbers
pub mod Answered
pub mod Crosses
