use Rattle.trace_format.proofs.RefusalLemmas.{definition_is_read, refusal_is_read, declared_or_refused, never_both, one_definition, one_refusal}
use Rattle.trace_format.proofs.laws.declarations_are_as_written.Goals as goal

pub returns-clause-definition : goal.returns-clause-definition
returns-clause-definition c = definition_is_read

pub returns-clause-refused : goal.returns-clause-refused
returns-clause-refused c = refusal_is_read

pub returns-clause-either : goal.returns-clause-either
returns-clause-either c = declared_or_refused

pub returns-clause-not_both : goal.returns-clause-not_both
returns-clause-not_both c = never_both

pub returns-clause-one_definition : goal.returns-clause-one_definition
returns-clause-one_definition c = one_definition

pub returns-clause-one_refusal : goal.returns-clause-one_refusal
returns-clause-one_refusal c = one_refusal
