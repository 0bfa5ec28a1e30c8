use Rattle.std.proofs.Common.{◌≡◌, ◌*◌, ◌^◌, ◌≤◌, take}
use Rattle.record_text.specs.CopyText.{copied_entries, copied_overrun}
use Rattle.record_text.proofs.trace_copies.counts_of_all.Given as goal

-- the counts of the CPUs passed
abbrev pub invariant-loop-cpu : goal.invariant-loop-cpu
invariant-loop-cpu l = record {
  kept : l.kept ≡ copied_entries (take l.cpu l.copy);
  overrun : l.overrun ≡ copied_overrun (take l.cpu l.copy);
  few : l.kept ≤ l.cpu * 2 ^ 64;
  few_overrun : l.overrun ≤ l.cpu * 2 ^ 64;
}
