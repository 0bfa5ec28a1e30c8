pub mod BlankLemmas
pub mod DecimalLemmas
pub mod Lists
pub mod NumberLemmas
pub mod Options
