pub mod Ends
pub mod LineLemmas
pub mod Lines
pub mod LogLemmas
