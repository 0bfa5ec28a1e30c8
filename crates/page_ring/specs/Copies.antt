-- What a copy of a ring shows: its statistics, and what its kept records read.
use Rattle.std.specs.Prelude.{ℕ, List}
use Rattle.page_ring.specs.Events.{Event}
use Rattle.page_ring.specs.Account.{Reading, readings_of, stats_of}
use Rattle.page_ring.specs.declared.rings.RingStats.{RingStats}

pub record Copied : Type 0 where
  pub stats : RingStats
  pub readings : List Reading

-- the copy of a ring after the events, of so many pages of so many bytes
abbrev pub copied_of : ℕ → ℕ → List Event → Copied
copied_of pages page_bytes events = record { stats = stats_of pages page_bytes events; readings = readings_of pages page_bytes events }
