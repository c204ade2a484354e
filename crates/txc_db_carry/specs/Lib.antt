pub mod Carry
pub mod Renewal
pub mod Rooms
pub mod WorkedRows
