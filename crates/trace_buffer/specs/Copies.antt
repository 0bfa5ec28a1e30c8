-- What a copy of a buffer shows: what each ring's copy does, CPU 0 first.
use Rattle.std.specs.Prelude.{ℕ, ◌+◌, List, [], ◌∷◌, ◌++◌, length, map, sum_by}
use Rattle.page_ring.specs.Copies.{Copied, copied_of}
use Rattle.page_ring.specs.Events.{Event}
use Rattle.trace_buffer.specs.Families.{CpuReading, on_cpu}
use Rattle.trace_buffer.specs.Orders.{by_timestamp}

-- the copy of rings of so many pages of so many bytes, from what happened to each
abbrev pub copies_of : ℕ → ℕ → List (List Event) → List Copied
copies_of pages page_bytes family = map (copied_of pages page_bytes) family

-- the records of copies, one CPU after another, where the first is that of this CPU
abbrev pub copied_from : ℕ → List Copied → List CpuReading
copied_from cpu [] = []
copied_from cpu (copy ∷ copies) = map (on_cpu cpu) copy.readings ++ copied_from (cpu + 1) copies

-- the same by timestamp, those of one timestamp by the lower CPU, and then in ring order
unfoldable pub merged_copies : List Copied → List CpuReading
merged_copies copies = by_timestamp (copied_from 0 copies)

-- how many records the rings kept
abbrev pub copied_count : List Copied → ℕ
copied_count copies = sum_by (λ copy. length copy.readings) copies
