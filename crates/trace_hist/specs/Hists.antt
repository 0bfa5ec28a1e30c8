-- What a caller sees of a histogram, and when that agrees with a list of rows.
use Rattle.std.specs.Prelude.{◌≡◌, ◌≢◌, ℕ, ◌+◌, ◌<◌, Bool, true, false, List, [], ◌∷◌, ◌++◌, length}
use Rattle.trace_format.specs.Cells.{Datum}
use Rattle.trace_format.specs.Operands.{Emission}
use Rattle.trace_trigger.specs.HistSpecs.{SpecSeen}
use Rattle.hist_entries.specs.Hits.{Hit}
use Rattle.trace_hist.specs.TriggerHits.{hit_of}
use Rattle.hist_entries.specs.HistEntries.{is_among}
use Rattle.hist_entries.specs.RowPlaces.{entry_keys, Place, In, IsPlaceOf, most_rows}
use Rattle.trace_hist.specs.Groups.{Table, grouped}

-- a histogram as contracts see it: its trigger, whether it is paused, its entries and totals, and what was reserved for the next row
pub record Seen : Type 0 where
  pub spec : SpecSeen
  pub paused : Bool
  pub table : Table
  pub next : Place

-- its entries and totals are those of the rows
unfoldable pub StandsFor : Seen → List Hit → Type 0
StandsFor hist hits = hist.table ≡ grouped hist.spec hits

-- the next row may be counted, as a trigger reads it: all that it needs was reserved. A paused histogram needs nothing
unfoldable pub IsReservedAs : Seen → SpecSeen → Emission → Type 0
IsReservedAs hist by emission = hist.paused ≡ false → IsPlaceOf hist.next hist.spec.size hist.table.entries (hit_of by emission).key

-- as the histogram's own trigger reads it
abbrev pub IsReserved : Seen → Emission → Type 0
IsReserved hist emission = IsReservedAs hist hist.spec emission

-- whichever trigger reads this key of a row
abbrev pub IsReservedForKey : Seen → List Datum → Type 0
IsReservedForKey hist key = (other : SpecSeen) (emission : Emission) → (hit_of other emission).key ≡ key → IsReservedAs hist other emission

-- a row needs a new entry for the key that a trigger reads of it: the histogram is not paused, it is not full, and the key has no entry, nor is one
-- reserved for it
pub record NeedsEntryAs (hist : Seen) (by : SpecSeen) (emission : Emission) : Type 0 where
  pub active : hist.paused ≡ false
  pub room : length hist.table.entries < hist.spec.size
  pub new : is_among (entry_keys hist.table.entries) (hit_of by emission).key ≡ false
  pub unreserved : hist.next ≢ In (hit_of by emission).key

abbrev pub NeedsEntry : Seen → Emission → Type 0
NeedsEntry hist emission = NeedsEntryAs hist hist.spec emission

-- how many rows were counted since it was new or cleared
abbrev pub counted : Seen → ℕ
counted hist = hist.table.hits + hist.table.dropped

-- one row more may be counted
abbrev pub HasRoom : Seen → Type 0
HasRoom hist = counted hist < most_rows

-- ---- what calls do

-- what a row needs was reserved, as a trigger reads it, and nothing else changed
pub record IsReservedFor (by : SpecSeen) (emission : Emission) (old new : Seen) : Type 0 where
  pub kept : new ≡ record old { next = new.next }
  pub ready : IsReservedAs new by emission

-- a row was counted, as a trigger reads it, unless the histogram is paused, and any row of the same key may be counted next
pub record IsCountedFor (by : SpecSeen) (emission : Emission) (old new : Seen) : Type 0 where
  pub spec : new.spec ≡ old.spec
  pub state : new.paused ≡ old.paused
  pub stands : (rows : List Hit) → StandsFor old rows → old.paused ≡ false → StandsFor new (rows ++ hit_of by emission ∷ [])
  pub more : old.paused ≡ false → counted new ≡ counted old + 1
  pub idle : old.paused ≡ true → new ≡ old
  pub still : IsReservedForKey new (hit_of by emission).key
