use Rattle.std.proofs.Common.{◌≡◌, ◌+◌, ◌++◌}
use Rattle.kernel_pages.specs.Taking.{taken_after}
use Rattle.kernel_pages.proofs.FillingLemmas.{rows_from, told}
use Rattle.kernel_pages.proofs.taken.push_further.Given as goal

-- the records that were laid out and those that are left are all
abbrev pub invariant-loop-record : goal.invariant-loop-record
invariant-loop-record l = record {
  counted : l.count + taken_after l.left l.last (rows_from l.catalog l.taken l.record-index) ≡ taken_after l.initial.left l.initial.last (rows_from l.catalog l.taken 0);
  written : l.events.items ++ told l.left l.last (rows_from l.catalog l.taken l.record-index)
      ≡ l.initial.events.items ++ told l.initial.left l.initial.last (rows_from l.catalog l.taken 0);
  index : l.count ≡ l.record-index;
}
