pub mod KeepReport
pub mod KeeperNodes
pub mod NodeReports
pub mod Refusals
pub mod Room
pub mod SiteKeeper
