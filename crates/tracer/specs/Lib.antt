pub mod Lives
pub mod LiveSeen
pub mod LiveFields
pub mod LiveLaws
pub mod LiveMasks
pub mod LateReads
pub mod TakingCalls
