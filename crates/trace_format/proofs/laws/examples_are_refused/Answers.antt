use Rattle.std.proofs.Common.{refl}
use Rattle.trace_format.specs.Reading.{step, definition_of, cause_in}
use Rattle.trace_format.specs.Rows.{value_of, row_of}
use Rattle.trace_format.proofs.laws.examples_are_refused.Goals as goal

pub returns-clause-declarations : goal.returns-clause-declarations
unfolding step definition_of cause_in
returns-clause-declarations c = record { offsets = refl; causes = refl }

pub returns-clause-rows : goal.returns-clause-rows
unfolding value_of row_of
returns-clause-rows c = refl
