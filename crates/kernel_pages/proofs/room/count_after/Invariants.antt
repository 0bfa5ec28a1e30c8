use Rattle.std.proofs.Common.{◌≡◌, ◌+◌, drop}
use Rattle.kernel_pages.specs.Taking.{taken_after}
use Rattle.kernel_pages.proofs.room.count_after.Given as goal

-- the rows that were counted and those that are left to count are all
abbrev pub invariant-loop-row : goal.invariant-loop-row
invariant-loop-row l = record {
  counted : l.count + taken_after l.left l.last (drop l.row-index l.rows) ≡ taken_after l.initial.left l.initial.last l.rows;
  index : l.count ≡ l.row-index;
}
