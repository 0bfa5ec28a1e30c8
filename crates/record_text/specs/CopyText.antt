-- What is shown of a trace that was copied: the text is made of the copy alone, whatever became of the rings since.
use Rattle.std.specs.Prelude.{ℕ, ◌+◌, List, ◌++◌, length, sum_by, Option, None, Some}
use Rattle.std.specs.List.{flat_map}
use Rattle.page_ring.specs.Account.{Reading}
use Rattle.page_ring.specs.Copies.{Copied}
use Rattle.trace_buffer.specs.Copies.{merged_copies}
use Rattle.trace_format.specs.Definitions.{Definition}
use Rattle.record_text.specs.BufferText.{reading_line}
use Rattle.record_text.specs.RecordText.{record_line}
use Rattle.record_text.specs.SnapshotText.{freed_line}
use Rattle.record_text.specs.TraceText.{trace_head}
use Rattle.record_text.specs.declared.trace_copies.CpuCopy.{CpuCopy}
use Rattle.record_text.specs.declared.trace_copies.TraceCopy.{TraceCopy}
use Rattle.record_text.specs.declared.trace_copies.TraceCopy.TheVariants.{OfAll, OfCpu}

-- how many records the copied rings kept, and how many had been lost to overwriting
abbrev pub copied_entries : List Copied → ℕ
copied_entries copies = sum_by (λ copy. copy.stats.entries) copies

abbrev pub copied_overrun : List Copied → ℕ
copied_overrun copies = sum_by (λ copy. copy.stats.overrun) copies

-- what is shown of the rings of all CPUs
unfoldable pub all_copied_text : List Definition → List Copied → List ℕ
all_copied_text events copies =
    trace_head (copied_entries copies) (copied_entries copies + copied_overrun copies) (length copies)
    ++ flat_map (reading_line events) (merged_copies copies)

-- and of the ring of one
unfoldable pub cpu_copied_text : List Definition → CpuCopy → List ℕ
cpu_copied_text events copy =
    trace_head copy.ring.stats.entries (copy.ring.stats.entries + copy.ring.stats.overrun) copy.cpus
    ++ flat_map (λ (r : Reading). record_line events copy.cpu r.rec) copy.ring.readings

abbrev pub copied_text : List Definition → TraceCopy → List ℕ
copied_text events (OfAll copies) = all_copied_text events copies
copied_text events (OfCpu copy) = cpu_copied_text events copy

-- what is shown of a spare side, or of none
abbrev pub copied_snapshot_text : List Definition → Option TraceCopy → List ℕ
copied_snapshot_text events None = freed_line
copied_snapshot_text events (Some copy) = copied_text events copy
