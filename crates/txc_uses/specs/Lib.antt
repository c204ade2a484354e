pub mod WorkedPinSets
