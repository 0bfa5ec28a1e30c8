use Rattle.std.proofs.Common.{refl}
use Rattle.trace_hist.proofs.GroupExamples.{has_table}
use Rattle.trace_hist.proofs.laws.examples_are_grouped.Goals as goal

pub returns-clause-full : goal.returns-clause-full
returns-clause-full c = has_table _ _ _ _ refl

pub returns-clause-room : goal.returns-clause-room
returns-clause-room c = has_table _ _ _ _ refl

pub returns-clause-pairs : goal.returns-clause-pairs
returns-clause-pairs c = has_table _ _ _ _ refl
