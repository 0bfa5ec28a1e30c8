use Rattle.std.proofs.Common.{◌≡◌, ◌++◌, drop}
use Rattle.trace_command.proofs.borrowed.copies.Given as goal

-- the pairs that were copied and those that are left are all
abbrev pub invariant-loop-pair : goal.invariant-loop-pair
invariant-loop-pair l = l.copies ++ drop l.pair-index l.pairs ≡ l.pairs
