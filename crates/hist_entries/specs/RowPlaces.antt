-- Where a row is counted, and how many rows a histogram counts.
use Rattle.std.specs.Prelude.{◌≡◌, ℕ, ◌^◌, ◌≤◌, false, List, length, map}
use Rattle.trace_format.specs.Cells.{Datum}
use Rattle.hist_entries.specs.HistEntries.{Entry, is_among}

-- where the next row will be counted: nothing is reserved; in the entry of a key; in none
pub data Place : Type 0 where
  Unknown : Place
  In : List Datum → Place
  Nowhere : Place

-- the keys that have entries
abbrev pub entry_keys : List Entry → List (List Datum)
entry_keys entries = map (λ (entry : Entry). entry.key) entries

-- a row with the key is counted there: in the entry of its key, or in none where there is no room for a new one
abbrev pub IsPlaceOf : Place → ℕ → List Entry → List Datum → Type 0
IsPlaceOf Unknown size entries key = ⊥
IsPlaceOf (In other) size entries key = other ≡ key
IsPlaceOf Nowhere size entries key = (is_among (entry_keys entries) key ≡ false) × (size ≤ length entries)

-- how many rows it counts at most: 128 bits hold each sum of so many numbers, which have 64
abbrev pub most_rows : ℕ
most_rows = 2 ^ 62
