use Rattle.trace_trigger.proofs.FittingLaws.{fitting_specs_count_alike, fitting_specs_of_one_event_read_alike, fitting_is_decided, fitting_is_reflexive, fitting_is_symmetric, fitting_is_transitive}
use Rattle.trace_trigger.proofs.hist_laws.fitting_triggers_count_alike.Goals as goal

pub returns-clause-alike : goal.returns-clause-alike
returns-clause-alike c = λ one other text of_other. fitting_specs_count_alike one other text of_other

pub returns-clause-of_one_event : goal.returns-clause-of_one_event
returns-clause-of_one_event c = λ definition text other. fitting_specs_of_one_event_read_alike definition text other

pub returns-clause-decided : goal.returns-clause-decided
returns-clause-decided c = λ left right. fitting_is_decided left right

pub returns-clause-reflexive : goal.returns-clause-reflexive
returns-clause-reflexive c = λ spec. fitting_is_reflexive spec

pub returns-clause-symmetric : goal.returns-clause-symmetric
returns-clause-symmetric c = λ left right. fitting_is_symmetric left right

pub returns-clause-transitive : goal.returns-clause-transitive
returns-clause-transitive c = λ one other third. fitting_is_transitive one other third
