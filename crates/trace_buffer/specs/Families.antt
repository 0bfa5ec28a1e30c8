-- What happened to the rings of a buffer since each was new or cleared: a list of ring events for each CPU, CPU 0 first, and what the rings
-- then keep (ring-buffer-design.rst, "The Generic Ring Buffer": each CPU has a ring of its own).
use Rattle.std.specs.Prelude.{ℕ, Bool, List, [], ◌++◌, length, sum_by, replicate, slice_index_or, slice_set}
use Rattle.std.specs.List.{list_any}
use Rattle.page_ring.specs.Events.{Event}
use Rattle.page_ring.specs.Account.{Reading, readings_of, has_waiting, stats_of}
use Rattle.page_ring.specs.declared.rings.RingStats.{RingStats}

-- the events of a CPU's ring
abbrev pub events_of : List (List Event) → ℕ → List Event
events_of family cpu = slice_index_or family cpu []

-- the family with these events more in the ring of a CPU
abbrev pub with_events : ℕ → List Event → List (List Event) → List (List Event)
with_events cpu more family = slice_set family cpu (events_of family cpu ++ more)

-- the family with the ring of a CPU emptied
abbrev pub with_cleared : ℕ → List (List Event) → List (List Event)
with_cleared cpu family = slice_set family cpu []

-- the family with every ring emptied
abbrev pub all_cleared : List (List Event) → List (List Event)
all_cleared family = replicate (length family) []

-- the records that a CPU's ring keeps, as consuming reads of it find them, for rings of so many pages of so many bytes
abbrev pub cpu_readings : ℕ → ℕ → List (List Event) → ℕ → List Reading
cpu_readings pages page_bytes family cpu = readings_of pages page_bytes (events_of family cpu)

-- how many records all rings keep
abbrev pub kept_count : ℕ → ℕ → List (List Event) → ℕ
kept_count pages page_bytes family = sum_by (λ events. length (readings_of pages page_bytes events)) family

-- whether a record waits to be read in some ring
abbrev pub any_has_waiting : ℕ → ℕ → List (List Event) → Bool
any_has_waiting pages page_bytes family = list_any (has_waiting pages page_bytes) family

-- and in a CPU's ring
abbrev pub cpu_has_waiting : ℕ → ℕ → List (List Event) → ℕ → Bool
cpu_has_waiting pages page_bytes family cpu = has_waiting pages page_bytes (events_of family cpu)

-- the statistics of a CPU's ring
abbrev pub cpu_stats : ℕ → ℕ → List (List Event) → ℕ → RingStats
cpu_stats pages page_bytes family cpu = stats_of pages page_bytes (events_of family cpu)

-- a record of a CPU's ring as a read shows it: how many records were lost between it and the one that was consumed, or shown, before it in
-- its ring, and its bytes
pub record CpuReading : Type 0 where
  pub cpu : ℕ
  pub lost : ℕ
  pub rec : List ℕ

abbrev pub on_cpu : ℕ → Reading → CpuReading
on_cpu cpu r = record { cpu = cpu; lost = r.lost; rec = r.rec }
