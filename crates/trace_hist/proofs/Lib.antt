pub mod Counting
pub mod DistinctKeys
pub mod GroupExamples
pub mod GroupLaws
pub mod Histograms
