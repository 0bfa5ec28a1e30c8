use Rattle.std.proofs.Common.{◌≡◌, ◌++◌}
use Rattle.command_log.proofs.pair_refs.PairRefs.to_pairs.Given as goal

-- the pairs that were copied, and those that are left
abbrev pub invariant-loop-pair : goal.invariant-loop-pair
invariant-loop-pair l = l.pairs ++ l.pair-iterator ≡ l.fn.self
