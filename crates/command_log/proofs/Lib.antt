pub mod ReadBack
pub mod PackedLemmas
pub mod WrittenEntries
pub mod ChunkFacts
pub mod PairReads
pub mod HistoryFacts
pub mod ShortEntries
pub mod PairWrites
