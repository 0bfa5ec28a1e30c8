use Rattle.std.proofs.Common.{◌≡◌, ◌++◌, ◌||◌, drop, map}
use Rattle.std.specs.List.{list_any}
use Rattle.trace_format.specs.Definitions.{Definition}
use Rattle.trace_instance.specs.Changes.{change_of, is_set}
use Rattle.trace_instance.proofs.write.filter_changes.Given as goal

abbrev pub invariant-loop-i : goal.invariant-loop-i
invariant-loop-i l = record {
  changes : l.changes.items ++ map (change_of l.text) (drop l.i l.events) ≡ map (change_of l.text) l.events;
  some : (l.some || list_any (λ (event : Definition). is_set (change_of l.text event)) (drop l.i l.events))
      ≡ list_any (λ (event : Definition). is_set (change_of l.text event)) l.events;
}
