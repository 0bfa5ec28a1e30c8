use Rattle.std.proofs.Common.{◌-◌, ◌≡◌, ◌≤◌, max, drop}
use Rattle.trace_script.specs.private.Bytes.{highest_rank}
use Rattle.trace_script.proofs.bytes.highest_in_blocks.Given as goal

abbrev pub invariant-loop-at : goal.invariant-loop-at
invariant-loop-at l =
    record {
      ranked : max l.highest (highest_rank (drop l.at l.line)) ≡ highest_rank l.line;
      last : highest_rank (drop l.last l.line) ≤ l.highest;
    }

abbrev pub decreases-loop-at : goal.decreases-loop-at
decreases-loop-at l = l.last - l.at
