-- Worked rows on the definitions: rings of two pages of sixty-four bytes.
use Rattle.std.specs.Prelude.{◌≡◌, ℕ, Bool, true, false, List, [], ◌∷◌, ◌++◌, map, replicate}
use Rattle.std.specs.List.{range_with_len}
use Rattle.page_ring.specs.Events.{Event, Put, Take}
use Rattle.page_ring.specs.Account.{stats_of, readings_of, put_answer}
use Rattle.page_ring.specs.declared.rings.RingStats.{RingStats}
use Rattle.page_ring.specs.declared.rings.Put.TheVariants.{Kept, KeptLosing, Dropped}

-- a record of 24 bytes and one of 40, written at this time
abbrev pub tick : ℕ → List ℕ
tick ts = ts ∷ replicate 23 0

abbrev pub big : ℕ → List ℕ
big ts = ts ∷ replicate 39 0

-- so many ticks from this time on
abbrev pub ticks : Bool → ℕ → ℕ → List Event
ticks overwrite from count = map (λ ts. Put (tick ts) overwrite) (range_with_len from count)

abbrev pub facts : ℕ → ℕ → ℕ → ℕ → ℕ → ℕ → RingStats
facts e o b t d r = record { entries = e; overrun = o; bytes = b; oldest = t; dropped = d; read = r }

-- the oldest page is lost whole
abbrev pub FiveEmissions : Type 0
FiveEmissions = stats_of 2 64 (ticks true 1 5) ≡ facts 3 2 72 3 0 0

abbrev pub SevenEmissions : Type 0
SevenEmissions = stats_of 2 64 (ticks true 1 7) ≡ facts 3 4 72 5 0 0

-- the reader's page isn't lost, and a read tells how many were
abbrev pub reads_after_overrun : List Event
reads_after_overrun = ticks true 1 3 ++ Take ∷ [] ++ ticks true 4 4

abbrev pub StatsAfterOverrun : Type 0
StatsAfterOverrun = stats_of 2 64 reads_after_overrun ≡ facts 4 2 96 2 0 1

abbrev pub ReadsAfterOverrun : Type 0
ReadsAfterOverrun = map (λ k. k.lost) (readings_of 2 64 reads_after_overrun) ≡ 0 ∷ 2 ∷ 0 ∷ 0 ∷ []

abbrev pub StatsAfterReads : Type 0
StatsAfterReads = stats_of 2 64 (reads_after_overrun ++ Take ∷ Take ∷ []) ≡ facts 2 2 48 6 0 3

-- the writer goes on on the page that was swapped out
abbrev pub WriterGoesOn : Type 0
WriterGoesOn = stats_of 2 64 (ticks true 1 1 ++ Take ∷ [] ++ ticks true 2 6) ≡ facts 4 2 96 2 0 1

abbrev pub WriterGoesOnWithoutOverwriting : Type 0
WriterGoesOnWithoutOverwriting = stats_of 2 64 (ticks false 1 1 ++ Take ∷ [] ++ ticks false 2 7) ≡ facts 5 0 120 2 2 1

-- a drop ends no page
abbrev pub smaller_after_drop : List Event
smaller_after_drop = Put (big 1) false ∷ Put (tick 2) false ∷ Put (big 3) false ∷ []

abbrev pub BigIsDropped : Type 0
BigIsDropped = put_answer 2 64 smaller_after_drop (big 4) false ≡ Dropped

abbrev pub SmallerIsKept : Type 0
SmallerIsKept = put_answer 2 64 (smaller_after_drop ++ Put (big 4) false ∷ []) (tick 5) false ≡ Kept

abbrev pub BigLosesPage : Type 0
BigLosesPage = put_answer 2 64 smaller_after_drop (big 4) true ≡ KeptLosing 2
