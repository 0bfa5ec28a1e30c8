use Rattle.std.proofs.Common.{◌≡◌, length}
use Rattle.std.specs.Slice.Iter.{iter_rest}
use Rattle.command_log.specs.EntriesLeft.{entries_left}
use Rattle.command_log.proofs.entries.Entries.next_entry.Given as goal

-- the same entries are left, and so many as before
abbrev pub invariant-step : goal.invariant-step
invariant-step l = record {
  same : entries_left l.self-inside ≡ entries_left l.initial.self-inside;
  left : l.self-inside.left ≡ l.initial.self-inside.left;
}

abbrev pub decreases-step : goal.decreases-step
decreases-step l = length (iter_rest l.self-inside.full)
