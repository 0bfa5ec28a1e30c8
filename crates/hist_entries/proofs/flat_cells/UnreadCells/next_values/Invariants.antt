use Rattle.std.proofs.Common.{◌≡◌, ◌≤◌, ◌+◌, ◌-◌, ◌++◌, map, vec_len, vec_capacity}
use Rattle.trace_format.specs.Cells.{datum_of}
use Rattle.hist_entries.proofs.flat_cells.UnreadCells.next_values.Given as goal

abbrev pub invariant-loop : goal.invariant-loop
invariant-loop l = record {
  room : vec_len l.values + (l.count - l.counter) ≤ vec_capacity l.values;
  read : vec_len l.values ≡ l.counter;
  left : map datum_of l.values.items ++ l.self ≡ l.initial.self;
}
