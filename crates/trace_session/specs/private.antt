-- Words of private functions and of proofs: no public clause cites them.
pub mod AnswersTold
pub mod HeardItems
pub mod ItemRuns
pub mod LineRuns
pub mod StepFronts
