use Rattle.std.proofs.Common.{◌≡◌, ◌++◌, map, drop}
use Rattle.std.specs.List.{flat_map}
use Rattle.trace_buffer.specs.CpuReadings.{taken_reading}
use Rattle.record_text.specs.BufferText.{taken_lines}
use Rattle.record_text.proofs.pipe.push_taken.Given as goal

-- what was written and what is left to write are all
abbrev pub invariant-loop-record : goal.invariant-loop-record
invariant-loop-record l =
    l.out.items ++ flat_map (taken_lines l.catalog) (map taken_reading (drop l.record-index l.taken))
    ≡ l.initial.out.items ++ flat_map (taken_lines l.catalog) (map taken_reading l.taken)
