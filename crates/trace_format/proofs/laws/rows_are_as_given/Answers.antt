use Rattle.trace_format.proofs.RowLemmas.{row_is_given, refusal_is_given}
use Rattle.trace_format.proofs.laws.rows_are_as_given.Goals as goal

pub returns-clause-row : goal.returns-clause-row
returns-clause-row c = row_is_given

pub returns-clause-refused : goal.returns-clause-refused
returns-clause-refused c = refusal_is_given
