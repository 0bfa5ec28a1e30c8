use Rattle.std.proofs.Common.{◌≡◌, ◌++◌, false, take, drop}
use Rattle.trace_filter.specs.Marks.{spread}
use Rattle.trace_filter.proofs.glob.spread.Given as goal

abbrev pub invariant-loop-mark : goal.invariant-loop-mark
invariant-loop-mark l = take l.mark-index l.row ++ spread l.seen (drop l.mark-index l.row) ≡ spread false l.fn.row
