use Rattle.trace_filter.proofs.FilterLemmas.{holds_as_its_tree}
use Rattle.trace_filter.proofs.laws.filters_hold_as_their_trees.Goals as goal

pub returns : goal.returns
returns c = holds_as_its_tree
