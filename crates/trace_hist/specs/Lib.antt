pub mod TriggerHits
pub mod GroupExamples
pub mod Groups
pub mod HistCopies
pub mod Hists
pub mod Laws
pub mod Stored
pub mod private
