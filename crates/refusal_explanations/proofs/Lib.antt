pub mod CaretLemmas
pub mod AttributeLemmas
