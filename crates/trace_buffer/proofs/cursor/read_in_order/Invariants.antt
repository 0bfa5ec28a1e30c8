use Rattle.std.proofs.Common.{◌≡◌, ◌-◌, ◌≤◌, ◌++◌, length, map}
use Rattle.trace_buffer.specs.CpuReadings.{taken_reading}
use Rattle.trace_buffer.specs.private.Nexts.{taken_in_order}
use Rattle.trace_buffer.proofs.cursor.read_in_order.Given as goal

abbrev pub invariant-loop-read : goal.invariant-loop-read
invariant-loop-read l = record {
  taken : map taken_reading l.records.items ++ taken_in_order (l.limit - l._read) l.cursors.items
      ≡ taken_in_order l.limit l.initial.cursors.items;
  few : length l.cursors.items ≤ 8;
}
