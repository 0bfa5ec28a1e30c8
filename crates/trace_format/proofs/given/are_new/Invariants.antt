use Rattle.std.proofs.Common.{◌≡◌, [], take, drop}
use Rattle.trace_format.specs.Rows.{all_new}
use Rattle.trace_format.proofs.given.are_new.Given as goal

-- the pairs that are left name new fields exactly where all do
abbrev pub invariant-loop-i : goal.invariant-loop-i
invariant-loop-i l = all_new l.fields (take l.i l.pairs) (drop l.i l.pairs) ≡ all_new l.fields [] l.pairs
