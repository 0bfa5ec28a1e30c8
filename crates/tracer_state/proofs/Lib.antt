pub mod RecordBytes
pub mod EachInstance
pub mod ReservedEach
pub mod PlannedReach
pub mod PlanSteps
pub mod Idle
pub mod WantedMasks
pub mod Stands
pub mod Usable
pub mod Alike
pub mod Histories
pub mod Resolving
pub mod Emitting
pub mod NumberedEvents
pub mod MadeNames
pub mod Making
pub mod Dispatch
mod PipeLooks
