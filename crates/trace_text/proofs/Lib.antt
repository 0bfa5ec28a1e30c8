pub mod CopyLemmas
pub mod LoopLemmas
pub mod ZipLemmas
pub mod HistTextExamples
