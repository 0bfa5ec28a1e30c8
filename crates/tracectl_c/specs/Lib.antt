pub mod Calls
pub mod GivenValues
pub mod Handles
pub mod Owned
pub mod OwnedPasses
