-- Words of private functions and of proofs: no public clause cites them.
pub mod Bytes
pub mod Emissions
pub mod Reads
pub mod Marks
pub mod Listed
pub mod TokensIn
pub mod TokensLeft
pub mod Words
