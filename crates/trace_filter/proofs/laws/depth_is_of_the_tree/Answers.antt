use Rattle.trace_filter.proofs.TreeDepths.{depth_is}
use Rattle.trace_filter.proofs.laws.depth_is_of_the_tree.Goals as goal

pub returns : goal.returns
returns c = depth_is
