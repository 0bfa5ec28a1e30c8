pub mod SourceLemmas
pub mod ScriptLemmas
pub mod LineFinding
pub mod PartThreads
pub mod PartReading
pub mod EndFinding
pub mod ItemReading
