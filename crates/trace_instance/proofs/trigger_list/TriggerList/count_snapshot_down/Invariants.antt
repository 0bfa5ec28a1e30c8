use Rattle.std.proofs.Common.{◌≡◌, ◌++◌, map, take, drop}
use Rattle.trace_instance.specs.TriggerLists.{counted}
use Rattle.trace_instance.proofs.trigger_list.TriggerList.count_snapshot_down.Given as goal

abbrev pub invariant-loop-i : goal.invariant-loop-i
invariant-loop-i l =
    l.self-inside.triggers.items ≡ map counted (take l.i l.initial.self-inside.triggers.items) ++ drop l.i l.initial.self-inside.triggers.items
