use Rattle.std.proofs.Common.{length}
use Rattle.trace_hist.proofs.sort.+compare.Given as goal

abbrev pub decreases-compare : goal.decreases-compare
decreases-compare l = length l.rules.now
