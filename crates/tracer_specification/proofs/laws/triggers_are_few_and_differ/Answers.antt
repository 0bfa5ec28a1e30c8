use Rattle.tracer_specification.proofs.FewTriggers.{at_most_four_triggers}
use Rattle.tracer_specification.proofs.HistTriggers.{hist_triggers_differ, hist_triggers_are_in_order}
use Rattle.tracer_specification.proofs.AttachedHists.{hist_triggers_are_those_attached}
use Rattle.tracer_specification.proofs.laws.triggers_are_few_and_differ.Goals as goal

pub returns-clause-few : goal.returns-clause-few
returns-clause-few c = at_most_four_triggers

pub returns-clause-differ : goal.returns-clause-differ
returns-clause-differ c = hist_triggers_differ

pub returns-clause-order : goal.returns-clause-order
returns-clause-order c = hist_triggers_are_in_order

pub returns-clause-attached : goal.returns-clause-attached
returns-clause-attached c = hist_triggers_are_those_attached
