use Rattle.std.proofs.Common.{◌≤◌, ◌+◌, ◌-◌, length, drop, vec_len, vec_capacity}
use Rattle.hist_entries.specs.EntriesCopies.{entries_of}
use Rattle.hist_entries.proofs.Copying.{IsLeft}
use Rattle.hist_entries.proofs.entries_copy.rows_of.Given as goal

abbrev pub invariant-loop-head : goal.invariant-loop-head
invariant-loop-head l = record {
  room : vec_len l.rows + (length l.heads - l.head-index) ≤ vec_capacity l.rows;
  left : IsLeft l.rows.items (drop l.head-index l.heads) l.cells l.sums (entries_of l.heads l.initial.cells l.initial.sums);
}
