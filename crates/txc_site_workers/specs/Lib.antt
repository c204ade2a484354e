pub mod CarriedEntries
pub mod GenerationKinds
pub mod Histories
pub mod Plans
pub mod SiteKeeperByPlan
pub mod Sites
pub mod WorkerClients
