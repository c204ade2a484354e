pub mod Members
pub mod Laws
