use Rattle.trace_filter.proofs.CauseLemmas.{cause_is_there, cause_is_due, signs_are_told}
use Rattle.trace_filter.proofs.laws.causes_are_of_the_grammar.Goals as goal

pub returns-clause-told : goal.returns-clause-told
returns-clause-told c = cause_is_there

pub returns-clause-due : goal.returns-clause-due
returns-clause-due c = cause_is_due

pub returns-clause-signs : goal.returns-clause-signs
returns-clause-signs c = λ spots at. signs_are_told spots at
