use Rattle.std.proofs.Common.{◌≡◌, ◌≤◌, ◌+◌, ◌-◌, ◌++◌, length, drop, vec_len, vec_capacity}
use Rattle.trace_format.specs.Values.{pairs_given}
use Rattle.trace_format.proofs.from_values.written_pairs.Given as goal

-- there is room for all pairs; the pairs so far and those that are left are all
abbrev pub invariant-loop-i : goal.invariant-loop-i
invariant-loop-i l = (vec_len l.pairs + (length l.given - l.i) ≤ vec_capacity l.pairs)
    × (l.pairs.items ++ pairs_given (drop l.i l.fields) (drop l.i l.given) ≡ pairs_given l.fields l.given)
