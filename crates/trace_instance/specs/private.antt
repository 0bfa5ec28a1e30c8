-- Words of private functions and of proofs: no public clause cites them.
pub mod Attaching
pub mod Commands
pub mod Tables
pub mod SharedTables
