use Rattle.std.proofs.Common.{◌-◌, ◌≡◌, drop}
use Rattle.trace_script.specs.private.Bytes.{highest_rank}
use Rattle.trace_script.proofs.bytes.is_bare.Given as goal

abbrev pub invariant-loop-at : goal.invariant-loop-at
invariant-loop-at l = highest_rank l.line ≡ highest_rank (drop l.at l.line)

abbrev pub decreases-loop-at : goal.decreases-loop-at
decreases-loop-at l = l.last - l.at
