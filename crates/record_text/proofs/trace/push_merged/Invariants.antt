use Rattle.std.proofs.Common.{◌≡◌, ◌++◌, map, drop}
use Rattle.std.specs.List.{flat_map}
use Rattle.trace_buffer.specs.CpuReadings.{kept_reading}
use Rattle.record_text.specs.BufferText.{reading_line}
use Rattle.record_text.proofs.trace.push_merged.Given as goal

-- what was written and what is left to write are all
abbrev pub invariant-loop-cpu : goal.invariant-loop-cpu
invariant-loop-cpu l =
    l.out.items ++ flat_map (reading_line l.catalog) (map kept_reading (drop l.cpu-index l.records))
    ≡ l.initial.out.items ++ flat_map (reading_line l.catalog) (map kept_reading l.records)
