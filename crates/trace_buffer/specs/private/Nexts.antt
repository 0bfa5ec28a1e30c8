-- Which of several CPUs' first records was written the earliest, and what reads in that order take of lists of readings.
use Rattle.std.specs.Prelude.{ℕ, zero, suc, ◌+◌, nat_lt, List, [], ◌∷◌, drop, slice_set, slice_index_or, Option, Some, None, if◌then◌else◌}
use Rattle.std.specs.Option.{option_map}
use Rattle.trace_record.specs.Record.{timestamp}
use Rattle.page_ring.specs.Account.{Reading, first}
use Rattle.trace_buffer.specs.Families.{CpuReading, on_cpu}
use Rattle.trace_buffer.specs.Orders.{Candidate, candidate, earlier}
use Rattle.trace_buffer.specs.declared.times.Next.{Next}

-- of a CPU's first record, where there is one, and the next one of later CPUs the earlier one; the CPU's where neither is
abbrev pub sooner_of : ℕ → Option ℕ → Option Next → Option Next
sooner_of cpu None later = later
sooner_of cpu (Some ts) None = Some (record { cpu = cpu; ts = ts })
sooner_of cpu (Some ts) (Some next) = if nat_lt next.ts ts then Some next else Some (record { cpu = cpu; ts = ts })

-- the timestamp of the first of some records
abbrev pub first_time : List Reading → Option ℕ
first_time readings = option_map (λ r. timestamp r.rec) (first readings)

-- the lowest CPU whose first record is the earliest, where the first list is that of this CPU
abbrev pub next_of : ℕ → List (List Reading) → Option Next
next_of cpu [] = None
next_of cpu (readings ∷ rest) = sooner_of cpu (first_time readings) (next_of (cpu + 1) rest)

-- the same with the record
abbrev pub candidate_of : ℕ → List (List Reading) → Option Candidate
candidate_of cpu [] = None
candidate_of cpu (readings ∷ rest) = earlier (candidate cpu readings) (candidate_of (cpu + 1) rest)

-- the lists without the first record of a CPU
abbrev pub without_first_of : ℕ → List (List Reading) → List (List Reading)
without_first_of cpu lists = slice_set lists cpu (drop 1 (slice_index_or lists cpu []))

-- what so many reads take, each the earliest of the first records
abbrev pub taken_in_order : ℕ → List (List Reading) → List CpuReading
taken_in_order zero lists = []
taken_in_order (suc reads) lists = elim (candidate_of 0 lists) [
  | None ↦ []
  | Some c ↦ on_cpu c.cpu c.first ∷ taken_in_order reads (without_first_of c.cpu lists)
]
