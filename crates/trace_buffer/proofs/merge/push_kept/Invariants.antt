use Rattle.std.proofs.Common.{◌≡◌, ◌++◌, map}
use Rattle.trace_buffer.specs.CpuReadings.{kept_reading}
use Rattle.trace_buffer.specs.Families.{on_cpu}
use Rattle.trace_buffer.proofs.merge.push_kept.Given as goal

abbrev pub invariant-loop-kept : goal.invariant-loop-kept
invariant-loop-kept l =
    map kept_reading l.out.items ++ map (on_cpu l.cpu) l.kept-iterator
    ≡ map kept_reading l.initial.out.items ++ map (on_cpu l.cpu) l.fn.records
