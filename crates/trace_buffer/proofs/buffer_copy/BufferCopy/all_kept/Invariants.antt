use Rattle.std.proofs.Common.{◌≡◌, length, map, take}
use Rattle.trace_buffer.specs.Copies.{copied_from}
use Rattle.trace_buffer.specs.CpuReadings.{kept_reading}
use Rattle.trace_buffer.proofs.buffer_copy.BufferCopy.all_kept.Given as goal

abbrev pub invariant-loop-cpu : goal.invariant-loop-cpu
invariant-loop-cpu l = record {
  kept : map kept_reading l.records.items ≡ copied_from 0 (take l.cpu l.self);
  end : l.cpu-end ≡ length l.self;
}
