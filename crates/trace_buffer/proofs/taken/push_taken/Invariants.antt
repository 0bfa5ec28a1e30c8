use Rattle.std.proofs.Common.{◌≡◌, ◌++◌, map, take}
use Rattle.trace_buffer.specs.CpuReadings.{taken_reading}
use Rattle.trace_buffer.specs.Families.{on_cpu}
use Rattle.trace_buffer.proofs.taken.push_taken.Given as goal

abbrev pub invariant-loop-kept : goal.invariant-loop-kept
invariant-loop-kept l =
    map taken_reading l.out.items ++ map (on_cpu l.cpu) (take l.left l.kept-iterator)
    ≡ map taken_reading l.initial.out.items ++ map (on_cpu l.cpu) (take l.limit l.fn.records)
