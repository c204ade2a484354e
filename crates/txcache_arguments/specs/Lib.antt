pub mod ArgumentWords
pub mod Program
