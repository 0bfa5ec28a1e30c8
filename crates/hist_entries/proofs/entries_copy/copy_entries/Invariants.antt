use Rattle.std.proofs.Common.{◌≤◌, ◌+◌, ◌-◌, take, vec_len, vec_capacity}
use Rattle.hist_entries.specs.KeptEntries.{entries_in}
use Rattle.hist_entries.proofs.Copying.{IsCopyOf}
use Rattle.hist_entries.proofs.entries_copy.copy_entries.Given as goal

abbrev pub invariant-loop-index : goal.invariant-loop-index
invariant-loop-index l = record {
  room : vec_len l.heads + (l.count - l.index) ≤ vec_capacity l.heads;
  copy : IsCopyOf (take l.index (entries_in l.entries.entries)) l.heads.items l.cells l.sums.items;
}
