use Rattle.trace_format.proofs.DeclarationCauseLemmas.{cause_is_at_the_offset}
use Rattle.trace_format.proofs.RowCauseLemmas.{cause_is_at_the_pair}
use Rattle.trace_format.proofs.laws.causes_are_of_the_refusals.Goals as goal

pub returns-clause-declaration : goal.returns-clause-declaration
returns-clause-declaration c = cause_is_at_the_offset

pub returns-clause-row : goal.returns-clause-row
returns-clause-row c = cause_is_at_the_pair
