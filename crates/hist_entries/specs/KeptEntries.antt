-- How entries are kept: the table of a histogram, of which the first entries are shown, and what a row changes in it.
use Rattle.std.specs.Prelude.{◌≡◌, ℕ, zero, suc, ℤ, pos, ◌+◌, ◌≤◌, List, [], ◌∷◌, length, map, take, drop, replicate, Option, None, Some, slice_get}
use Rattle.std.specs.List.{AllByRecursion}
use Rattle.std.specs.Cow.{cow_slice_items}
use Rattle.std.specs.Global.{Vec}
use Rattle.trace_format.specs.Cells.{Datum, Whole, Bytes}
use Rattle.trace_format.specs.Operands.{Emission}
use Rattle.trace_format.specs.declared.key.Key.{Key}
use Rattle.hist_entries.specs.declared.key_cell.KeyCell.{KeyCell}
use Rattle.hist_entries.specs.declared.key_cell.KeyCell.TheVariants as cells
use Rattle.hist_entries.specs.declared.key_cell.RowCell.{RowCell}
use Rattle.hist_entries.specs.declared.key_cell.RowCell.TheVariants as read
use Rattle.hist_entries.specs.declared.tally.Tally.{Tally}
use Rattle.hist_entries.specs.declared.next.Next.{Next}
use Rattle.hist_entries.specs.declared.next.Next.TheVariants as nexts
use Rattle.hist_entries.specs.Numbers.{AreWithin}
use Rattle.hist_entries.specs.Hits.{key_cell}
use Rattle.hist_entries.specs.HistEntries.{Entry, added}
use Rattle.hist_entries.specs.RowPlaces.{Place, Unknown, In, Nowhere}

-- ---- entries

abbrev pub datum_in : KeyCell → Datum
datum_in (cells.Num n) = Whole n
datum_in (cells.Text bytes) = Bytes (cow_slice_items bytes)

-- and of one that is read
abbrev pub datum_read : RowCell → Datum
datum_read (read.Num n) = Whole n
datum_read (read.Text bytes) = Bytes bytes.now

abbrev pub cells_in : Vec KeyCell → List Datum
cells_in key = map datum_in key.items

abbrev pub entry_in : Vec KeyCell × Tally → Entry
entry_in pair = record { key = cells_in pair.0; hitcount = pair.1.hitcount; sums = pair.1.sums.items }

abbrev pub entries_in : List (Vec KeyCell × Tally) → List Entry
entries_in pairs = map entry_in pairs

-- an entry of no rows
abbrev pub empty_entry : ℕ → List Datum → Entry
empty_entry width key = record { key = key; hitcount = 0; sums = replicate width (pos 0) }

-- ---- where the next row is counted

-- the key that a trigger reads of an emission
abbrev pub key_of : List Key → Emission → List Datum
key_of keys emission = map (key_cell emission) keys

abbrev pub place_at : Option Entry → Place
place_at None = Unknown
place_at (Some entry) = In entry.key

abbrev pub place_in : List Entry → Next → Place
place_in entries nexts.Unknown = Unknown
place_in entries (nexts.At index) = place_at (slice_get entries index)
place_in entries nexts.Dropped = Nowhere

-- ---- the table

-- no entry, or one of no rows: what follows the entries that are shown
abbrev pub IsEnd : ℕ → List Entry → Type 0
IsEnd width [] = Unit {0}
IsEnd width (entry ∷ []) = entry ≡ empty_entry width entry.key
IsEnd width (entry ∷ other ∷ entries) = ⊥

-- counts and sums that so many rows may come to
abbrev pub AreCounted : ℕ → List Entry → Type 0
AreCounted rows entries = AllByRecursion (λ (entry : Entry). (entry.hitcount ≤ rows) × AreWithin rows entry.sums) entries

-- entries stay as a histogram keeps them, with room for so many: those that are shown are the same, and after them is none, or one of no rows
pub record StayKept (visible most width : ℕ) (before after : List (Vec KeyCell × Tally)) : Type 0 where
  pub shown : visible ≤ length after
  pub size : length after ≤ most
  pub same : take visible (entries_in after) ≡ take visible (entries_in before)
  pub end : IsEnd width (drop visible (entries_in after))
  pub counted : (rows : ℕ) → AreCounted rows (entries_in before) → AreCounted rows (entries_in after)

-- ---- a row more

-- an entry with a row more, whose numbers are these
abbrev pub counted_once : List ℤ → Entry → Entry
counted_once numbers entry = record { key = entry.key; hitcount = entry.hitcount + 1; sums = added entry.sums numbers }

abbrev pub counted_at : List ℤ → ℕ → List Entry → List Entry
counted_at numbers index [] = []
counted_at numbers zero (entry ∷ entries) = counted_once numbers entry ∷ entries
counted_at numbers (suc index) (entry ∷ entries) = entry ∷ counted_at numbers index entries
