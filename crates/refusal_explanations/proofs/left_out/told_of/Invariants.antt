use Rattle.std.proofs.Common.{◌≡◌, length, map}
use Rattle.refusal_explanations.specs.LeftOut.{told_of}
use Rattle.refusal_explanations.proofs.left_out.told_of.Given as goal

abbrev pub invariant-loop-table : goal.invariant-loop-table
invariant-loop-table l =
    told_of (map (λ row. (row.0.now, row.1.now)) l.table) l.name l.other ≡ told_of (map (λ row. (row.0.now, row.1.now)) l.initial.table) l.name l.other

abbrev pub decreases-loop-table : goal.decreases-loop-table
decreases-loop-table l = length l.table
