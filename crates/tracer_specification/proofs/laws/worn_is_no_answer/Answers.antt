use Rattle.tracer_specification.proofs.Unworn.{worn_is_no_answer}
use Rattle.tracer_specification.proofs.laws.worn_is_no_answer.Goals as goal

pub returns : goal.returns
returns c = worn_is_no_answer
