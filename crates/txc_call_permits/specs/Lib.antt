pub mod PermitPool
