use Rattle.tracer_specification.proofs.EmptySpares.{spares_begin_empty}
use Rattle.tracer_specification.proofs.Spares.{triggers_have_their_spare}
use Rattle.tracer_specification.proofs.laws.spares_are_there_and_begin_empty.Goals as goal

pub returns-clause-armed : goal.returns-clause-armed
returns-clause-armed c = triggers_have_their_spare

pub returns-clause-empty : goal.returns-clause-empty
returns-clause-empty c = spares_begin_empty
