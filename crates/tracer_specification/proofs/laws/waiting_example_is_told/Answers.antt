use Rattle.tracer_specification.proofs.WaitingExamples.{looks-are_told}
use Rattle.tracer_specification.proofs.laws.waiting_example_is_told.Goals as goal

pub returns : goal.returns
returns c = looks-are_told
