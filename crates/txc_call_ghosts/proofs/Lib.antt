pub mod Fresh
pub mod Idled
pub mod Numbers
