use Rattle.std.proofs.Common.{◌≡◌, drop}
use Rattle.trace_instance.specs.private.SharedTables.{left_of, named_in}
use Rattle.trace_instance.proofs.attach.EventTriggers.named_by.Given as goal

abbrev pub invariant-loop-i : goal.invariant-loop-i
invariant-loop-i l = named_in l.spec (drop l.i (left_of l.self l.append)) ≡ named_in l.spec (left_of l.self l.append)
