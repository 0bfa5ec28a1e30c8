use Rattle.tracer_specification.proofs.Examples.{examples-are_answered}
use Rattle.tracer_specification.proofs.laws.examples_are_answered.Goals as goal

pub returns-clause-merged : goal.returns-clause-merged
returns-clause-merged c = examples-are_answered.merged

pub returns-clause-instances : goal.returns-clause-instances
returns-clause-instances c = examples-are_answered.instances

pub returns-clause-made_again : goal.returns-clause-made_again
returns-clause-made_again c = examples-are_answered.made_again

pub returns-clause-recording : goal.returns-clause-recording
returns-clause-recording c = examples-are_answered.recording

pub returns-clause-lost : goal.returns-clause-lost
returns-clause-lost c = examples-are_answered.lost

pub returns-clause-filters : goal.returns-clause-filters
returns-clause-filters c = examples-are_answered.filters

pub returns-clause-snapshots : goal.returns-clause-snapshots
returns-clause-snapshots c = examples-are_answered.snapshots

pub returns-clause-counted : goal.returns-clause-counted
returns-clause-counted c = examples-are_answered.counted

pub returns-clause-unlimited : goal.returns-clause-unlimited
returns-clause-unlimited c = examples-are_answered.unlimited

pub returns-clause-removed : goal.returns-clause-removed
returns-clause-removed c = examples-are_answered.removed

pub returns-clause-disabled : goal.returns-clause-disabled
returns-clause-disabled c = examples-are_answered.disabled

pub returns-clause-refused : goal.returns-clause-refused
returns-clause-refused c = examples-are_answered.refused

pub returns-clause-sides : goal.returns-clause-sides
returns-clause-sides c = examples-are_answered.sides
