pub mod Limits
pub mod Living
pub mod Calls
mod LateCalls
mod CarriedTakes
pub mod BookAnswers
pub mod LiveMasks
