pub mod CopiedHists
pub mod TriggerText
pub mod EntryText
pub mod HistText
pub mod ShownTriggers
pub mod HistTextExamples
