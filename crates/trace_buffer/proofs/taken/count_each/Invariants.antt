use Rattle.std.proofs.Common.{◌≡◌, ℕ, ◌<◌, map, take, slice_index_or, length}
use Rattle.trace_buffer.specs.CpuReadings.{taken_reading}
use Rattle.trace_buffer.specs.CpuCounts.{count_of}
use Rattle.trace_buffer.proofs.taken.count_each.Given as goal

abbrev pub invariant-loop-i : goal.invariant-loop-i
invariant-loop-i l = record {
  counts : (cpu : ℕ) → cpu < 8 → slice_index_or l.counts cpu 0 ≡ count_of cpu (map taken_reading (take l.i l.records));
  eight : length l.counts ≡ 8;
  all : l.i-end ≡ length l.records;
}
