use Rattle.std.proofs.Common.{◌≡◌, [], take, drop}
use Rattle.trace_format.specs.Rows.{first_wrong}
use Rattle.trace_format.proofs.given.wrong_pair.Given as goal

-- the first wrong pair of those that are left is that of all
abbrev pub invariant-loop-i : goal.invariant-loop-i
invariant-loop-i l = first_wrong l.fields (take l.i l.pairs) (drop l.i l.pairs) ≡ first_wrong l.fields [] l.pairs
