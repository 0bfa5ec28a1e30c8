-- Words of private functions and of proofs: no public clause cites them.
pub mod Exchanges
pub mod MountTurns
