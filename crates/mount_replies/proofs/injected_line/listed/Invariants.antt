use Rattle.std.proofs.Common.{◌≡◌, ◌≤◌, ◌+◌, ◌-◌, ◌++◌, length, drop, vec_len, vec_capacity}
use Rattle.mount_replies.proofs.injected_line.listed.Given as goal

-- there is room for all pairs; the pairs so far and those that are left are all
abbrev pub invariant-loop-pair : goal.invariant-loop-pair
invariant-loop-pair l = (vec_len l.list + (length l.pairs - l.pair-index) ≤ vec_capacity l.list)
    × (l.list.items ++ drop l.pair-index l.pairs ≡ l.pairs)
