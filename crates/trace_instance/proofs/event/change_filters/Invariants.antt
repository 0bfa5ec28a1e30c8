use Rattle.std.proofs.Common.{◌≡◌, ◌+◌, ◌++◌, length, take, drop}
use Rattle.trace_instance.specs.EventLists.{with_filters}
use Rattle.trace_instance.proofs.event.change_filters.Given as goal

abbrev pub invariant-loop-change : goal.invariant-loop-change
invariant-loop-change l = record {
  events : take l.i l.events ++ with_filters l.change-iterator.rest.items (drop l.i l.events) ≡ with_filters l.fn.changes.items l.fn.events;
  left : l.i + length l.change-iterator.rest.items ≡ length l.events;
}
