pub mod Places
pub mod Puts
pub mod Refusing
pub mod WentOn
pub mod Steps
pub mod Versions
