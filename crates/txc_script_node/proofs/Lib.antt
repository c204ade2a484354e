pub mod Digits
pub mod Named
pub mod Reporting
pub mod Taking
pub mod OneThing
pub mod OneWay
pub mod Counted
