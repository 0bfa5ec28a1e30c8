-- Words of private functions and of proofs: no public clause cites them.
pub mod MadeTexts
pub mod Tries
pub mod Turns
