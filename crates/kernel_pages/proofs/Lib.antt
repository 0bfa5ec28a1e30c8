pub mod EventLemmas
pub mod TakingLemmas
pub mod ReadLemmas
pub mod PageLemmas
pub mod FormatLemmas
pub mod LayoutLemmas
pub mod RowLemmas
pub mod FillingLemmas
