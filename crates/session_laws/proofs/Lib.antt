pub mod FitCommands
pub mod ReadyHistories
pub mod Renumbering
pub mod LoneThreads
pub mod RunParts
pub mod GoingOn
pub mod Hearing
