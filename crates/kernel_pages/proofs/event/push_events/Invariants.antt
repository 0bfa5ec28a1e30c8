use Rattle.std.proofs.Common.{◌≡◌, ◌≤◌, ◌++◌, drop, length}
use Rattle.kernel_pages.specs.Pages.{events_from, InTime}
use Rattle.kernel_pages.proofs.event.push_events.Given as goal

-- what was written and what is left to write are all
abbrev pub invariant-loop-row : goal.invariant-loop-row
invariant-loop-row l = record {
  written : l.out.items ++ events_from l.last (drop l.row-index l.rows) ≡ l.initial.out.items ++ events_from l.initial.last l.rows;
  in_time : InTime l.last (drop l.row-index l.rows);
  small : length (events_from l.last (drop l.row-index l.rows)) ≤ 4080;
}
