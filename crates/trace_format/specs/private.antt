-- Words of private functions and of proofs: no public clause cites them.
pub mod InOrder
pub mod NumberPatterns
pub mod PayloadSizes
pub mod TypeWords
