pub mod BlockRuns
pub mod Ends
pub mod Faults
pub mod Gates
pub mod PartRuns
pub mod Readies
