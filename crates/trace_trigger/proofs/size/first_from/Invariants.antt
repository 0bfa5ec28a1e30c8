use Rattle.std.proofs.Common.{◌≡◌, drop}
use Rattle.trace_trigger.specs.HistSizes.{first_from}
use Rattle.trace_trigger.proofs.size.first_from.Given as goal

abbrev pub invariant-loop-size : goal.invariant-loop-size
invariant-loop-size l = first_from (drop l.size-index l.sizes) l.entries ≡ first_from l.sizes l.entries
