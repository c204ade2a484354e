pub mod Bodies
pub mod Ids
pub mod WorkedEntries
