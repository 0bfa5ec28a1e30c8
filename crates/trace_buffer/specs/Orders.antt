-- In which order reads show and consume the records of several CPUs (ftrace.rst, "The File System"). `trace` shows all kept records by
-- timestamp; each consuming read takes the earliest of the CPUs' first records. The two orders are one if no ring's timestamps fall.
use Rattle.std.specs.Prelude.{ℕ, zero, suc, ◌+◌, nat_lt, List, [], ◌∷◌, ◌++◌, map, take, replicate, Option, Some, None, if◌then◌else◌}
use Rattle.trace_record.specs.Record.{timestamp}
use Rattle.page_ring.specs.Events.{Event, Take}
use Rattle.page_ring.specs.Account.{Reading, readings_of}
use Rattle.trace_buffer.specs.Families.{CpuReading, on_cpu, cpu_readings, with_events}

-- ---- merged order: what `trace` shows

-- the records that all rings keep, one CPU after another, where the first list is that of this CPU
abbrev pub kept_from : ℕ → ℕ → ℕ → List (List Event) → List CpuReading
kept_from pages page_bytes cpu [] = []
kept_from pages page_bytes cpu (events ∷ family) =
    map (on_cpu cpu) (readings_of pages page_bytes events) ++ kept_from pages page_bytes (cpu + 1) family

-- a record put before those of a list that are not earlier
abbrev pub before_later : CpuReading → List CpuReading → List CpuReading
before_later r [] = r ∷ []
before_later r (s ∷ rest) = if nat_lt (timestamp s.rec) (timestamp r.rec) then s ∷ before_later r rest else r ∷ s ∷ rest

-- records ordered by timestamp; those of one timestamp stay in the order that they have
abbrev pub by_timestamp : List CpuReading → List CpuReading
by_timestamp [] = []
by_timestamp (r ∷ rest) = before_later r (by_timestamp rest)

-- the records that all rings keep: by timestamp, those of one timestamp by the lower CPU, and then in ring order
unfoldable pub merged : ℕ → ℕ → List (List Event) → List CpuReading
merged pages page_bytes family = by_timestamp (kept_from pages page_bytes 0 family)

-- ---- pipe order: what consuming reads of all CPUs take

-- a CPU, and the first record that its ring keeps
pub record Candidate : Type 0 where
  pub cpu : ℕ
  pub first : Reading

-- of two candidates the one whose record is earlier; the first one where neither is
abbrev pub earlier : Option Candidate → Option Candidate → Option Candidate
earlier None other = other
earlier (Some c) None = Some c
earlier (Some c) (Some d) = if nat_lt (timestamp d.first.rec) (timestamp c.first.rec) then Some d else Some c

abbrev pub candidate : ℕ → List Reading → Option Candidate
candidate cpu [] = None
candidate cpu (r ∷ rest) = Some (record { cpu = cpu; first = r })

-- the lowest CPU whose first kept record has the least timestamp, where the first list is that of this CPU
abbrev pub next_from : ℕ → ℕ → ℕ → List (List Event) → Option Candidate
next_from pages page_bytes cpu [] = None
next_from pages page_bytes cpu (events ∷ family) =
    earlier (candidate cpu (readings_of pages page_bytes events)) (next_from pages page_bytes (cpu + 1) family)

-- what so many consuming reads of all CPUs take, one after another, each on the CPU whose next record is the earliest; and the family then
pub record Consumed : Type 0 where
  pub taken : List CpuReading
  pub family : List (List Event)

abbrev pub with_taken : CpuReading → Consumed → Consumed
with_taken r rest = record { taken = r ∷ rest.taken; family = rest.family }

abbrev pub consume_any : ℕ → ℕ → ℕ → List (List Event) → Consumed
consume_any pages page_bytes zero family = record { taken = []; family = family }
consume_any pages page_bytes (suc reads) family = elim (next_from pages page_bytes 0 family) [
  | None ↦ record { taken = []; family = family }
  | Some c ↦ with_taken (on_cpu c.cpu c.first) (consume_any pages page_bytes reads (with_events c.cpu (Take ∷ []) family))
]

-- what so many consuming reads of one CPU take, of the records that its ring keeps
abbrev pub taken_of_cpu : ℕ → ℕ → ℕ → ℕ → List (List Event) → List CpuReading
taken_of_cpu pages page_bytes cpu reads family = map (on_cpu cpu) (take reads (cpu_readings pages page_bytes family cpu))

-- and the family then
abbrev pub after_cpu_reads : ℕ → ℕ → List (List Event) → List (List Event)
after_cpu_reads cpu reads family = with_events cpu (replicate reads Take) family
