use Rattle.trace_filter.proofs.TreeReading.{one_tree}
use Rattle.trace_filter.proofs.laws.trees_are_unique.Goals as goal

pub returns : goal.returns
returns c = one_tree
