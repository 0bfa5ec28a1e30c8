pub mod PathLemmas
pub mod EqualLemmas
pub mod RefusalLemmas
