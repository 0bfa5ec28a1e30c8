use Rattle.trace_trigger.proofs.HistTextLaws.{ok_is_written}
use Rattle.trace_trigger.proofs.SyntaxLaws.{syntax_is_leftmost, leftmost_has_cause, syntax_is_unwritten}
use Rattle.trace_trigger.proofs.CauseLaws.{refusal_is_as_written}
use Rattle.trace_trigger.proofs.LaterFaults.{never_bad}
use Rattle.trace_trigger.proofs.MistakeCauses.{cause_is_of_grammar}
use Rattle.trace_trigger.proofs.hist_laws.hist_triggers_are_as_written.Goals as goal

pub returns-clause-ok : goal.returns-clause-ok
returns-clause-ok c = λ definition text spec. ok_is_written definition text spec

pub returns-clause-leftmost : goal.returns-clause-leftmost
returns-clause-leftmost c = λ definition text at cause. syntax_is_leftmost definition text at cause

pub returns-clause-caused : goal.returns-clause-caused
returns-clause-caused c = λ text at. leftmost_has_cause text at

pub returns-clause-cause : goal.returns-clause-cause
returns-clause-cause c = λ text cut at why. cause_is_of_grammar text cut at why

pub returns-clause-unwritten : goal.returns-clause-unwritten
returns-clause-unwritten c = λ definition text. syntax_is_unwritten definition text

pub returns-clause-refused : goal.returns-clause-refused
returns-clause-refused c = λ definition text fault. refusal_is_as_written definition text fault

pub returns-clause-known : goal.returns-clause-known
returns-clause-known c = λ definition text cause is. never_bad definition text cause
