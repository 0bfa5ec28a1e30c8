use Rattle.std.proofs.Common.{length}
use Rattle.trace_trigger.proofs.spec.+are_alike_in_kind.Given as goal

abbrev pub decreases-are_alike_in_kind : goal.decreases-are_alike_in_kind
decreases-are_alike_in_kind l = length l.left.now
