use Rattle.tracer_specification.proofs.Trailing.{trails_hold_done_calls_once}
use Rattle.tracer_specification.proofs.laws.trails_hold_done_calls_once.Goals as goal

pub returns : goal.returns
returns c = trails_hold_done_calls_once
