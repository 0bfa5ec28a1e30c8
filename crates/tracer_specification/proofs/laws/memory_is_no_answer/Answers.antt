use Rattle.tracer_specification.proofs.Unworn.{memory_is_no_answer}
use Rattle.tracer_specification.proofs.laws.memory_is_no_answer.Goals as goal

pub returns : goal.returns
returns c = memory_is_no_answer
