pub mod Functions
pub mod Laws
pub mod Snapshots
pub mod VersionHistory
pub mod WorkedSnapshots
