-- The text of a `snapshot` file (ftrace.rst, "Snapshot"): a line that says that there is no spare side, or what the spare side's rings keep.
use Rattle.std.specs.Prelude.{◌≡◌, ℕ, List, Option, None, Some, codes, ⊤}
use Rattle.page_ring.specs.Events.{Event}
use Rattle.trace_buffer.specs.Buffers.{Seen}
use Rattle.trace_format.specs.Definitions.{Definition}
use Rattle.record_text.specs.BufferText.{trace_text}

-- what is shown without a spare
unfoldable pub freed_line : List ℕ
freed_line = codes "# * Snapshot is freed *\n"

-- that line, or the trace of all CPUs of the spare side, from what happened to its rings, each of so many pages of so many bytes
unfoldable pub snapshot_text : List Definition → ℕ → ℕ → Option (List (List Event)) → List ℕ
snapshot_text events pages page_bytes None = freed_line
snapshot_text events pages page_bytes (Some family) = trace_text events pages page_bytes family None

-- each ring of the spare, if there is one, has so many pages of so many bytes
abbrev pub SpareHasShape : ℕ → ℕ → Option Seen → Type 0
SpareHasShape pages page_bytes None = ⊤
SpareHasShape pages page_bytes (Some spare) = (spare.pages ≡ pages) × (spare.page_bytes ≡ page_bytes)
