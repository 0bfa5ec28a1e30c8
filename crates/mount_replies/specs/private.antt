-- Words of private functions and of proofs: no public clause cites them.
pub mod StillReplies
pub mod Pushed
pub mod ShortReplies
pub mod Looks
pub mod DryPipes
pub mod Emptyings
pub mod LineRuns
pub mod Notings
pub mod Targets
pub mod Tellings
pub mod TextReads
pub mod Commandings
