use Rattle.std.proofs.Common.{length}
use Rattle.trace_trigger.proofs.spec.+are_written_alike.Given as goal

abbrev pub decreases-are_written_alike : goal.decreases-are_written_alike
decreases-are_written_alike l = length l.left.now
