pub mod AnyFunction
pub mod Program
pub mod WorkedCalls
pub mod WorkedEntries
