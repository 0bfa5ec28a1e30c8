use Rattle.tracer_specification.proofs.AnsweredTrails.{each_call_is_answered, lone_callers_are_answered}
use Rattle.tracer_specification.proofs.laws.trails_hold_answers.Goals as goal

pub returns-clause-each : goal.returns-clause-each
returns-clause-each c = each_call_is_answered

pub returns-clause-lone : goal.returns-clause-lone
returns-clause-lone c = lone_callers_are_answered
