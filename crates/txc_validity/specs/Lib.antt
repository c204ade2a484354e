pub mod Answers
pub mod Changes
pub mod Laws
pub mod Validity
