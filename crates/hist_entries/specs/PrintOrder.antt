-- In which order a histogram's entries are printed (histogram.rst, "hist triggers"): by the sort keys in turn, those that tie in order of first
-- occurrence. Which list it is, is said of the whole list, with no sort.
use Rattle.std.specs.Prelude.{◌≡◌, ℕ, ℤ, pos, Bool, true, false, if◌then◌else◌, List, [], ◌∷◌, map, filter, unwrap_or, slice_get}
use Rattle.std.specs.List.{All}
use Rattle.std.specs.List.Sorted.{IsPermutation, IsSorted, ties}
use Rattle.std.specs.declared.cmp.Ordering.{Ordering}
use Rattle.std.specs.declared.cmp.Ordering.TheVariants.{Less, Equal, Greater}
use Rattle.std.specs.Ordering.{int_cmp, nat_cmp, is_lt, ordering_then}
use Rattle.std.specs.Cmp.Lexicographic.{slice_cmp}
use Rattle.trace_format.specs.Cells.{Datum, Whole, Bytes, datum_of}
use Rattle.hist_entries.specs.declared.entry.HistRow.{HistRow}
use Rattle.trace_format.specs.declared.sort_rule.SortSource.{SortSource}
use Rattle.trace_format.specs.declared.sort_rule.SortSource.TheVariants.{Key, Value, Hitcount}
use Rattle.trace_format.specs.declared.sort_rule.SortRule.{SortRule}
use Rattle.hist_entries.specs.Hits.{field_cell}
use Rattle.hist_entries.specs.HistEntries.{Entry}

-- what the program's entry is
abbrev pub row_in : HistRow → Entry
row_in entry = record { key = map datum_of entry.keys.items; hitcount = entry.hitcount; sums = entry.sums.items }

-- numbers by value, texts by bytes. (One sort key gives numbers alone, or texts alone.)
abbrev pub datum_cmp : Datum → Datum → Ordering
datum_cmp (Whole m) (Whole n) = int_cmp m n
datum_cmp (Whole m) (Bytes c) = Less
datum_cmp (Bytes b) (Whole n) = Greater
datum_cmp (Bytes b) (Bytes c) = slice_cmp nat_cmp b c

-- the sum at an index. (An entry has one for each value; elsewhere 0 stands for it.)
abbrev pub sum_at : List ℤ → ℕ → ℤ
sum_at sums index = unwrap_or (slice_get sums index) (pos 0)

-- what an entry is sorted by: the cell of a key, a value's sum, or its hitcount
abbrev pub sort_cell : SortSource → Entry → Datum
sort_cell (Key index) entry = field_cell entry.key index
sort_cell (Value index) entry = Whole (sum_at entry.sums index)
sort_cell Hitcount entry = Whole (pos entry.hitcount)

abbrev pub directed : Bool → SortSource → Entry → Entry → Ordering
directed false source left right = datum_cmp (sort_cell source left) (sort_cell source right)
directed true source left right = datum_cmp (sort_cell source right) (sort_cell source left)

-- by each sort key in turn; `Equal` where none tells two entries apart
abbrev pub entry_cmp : List SortRule → Entry → Entry → Ordering
entry_cmp [] left right = Equal
entry_cmp (rule ∷ rules) left right = ordering_then (directed rule.descending rule.source left right) (entry_cmp rules left right)

abbrev pub comes_before : List SortRule → Entry → Entry → Bool
comes_before rules left right = is_lt (entry_cmp rules left right)

-- entries as they are printed: the same entries, sorted, where those that tie with an entry are in the order that they had
pub record IsPrintOrder (rules : List SortRule) (entries printed : List Entry) : Type 0 where
  pub permutation : IsPermutation entries printed
  pub sorted : IsSorted (entry_cmp rules) printed
  pub stable : All (λ entry. filter (ties (comes_before rules) entry) printed ≡ filter (ties (comes_before rules) entry) entries) entries

-- ---- the one such list

-- an entry put before those of a list that do not come before it
abbrev pub before_later : List SortRule → Entry → List Entry → List Entry
before_later rules entry [] = entry ∷ []
before_later rules entry (other ∷ entries) =
    if comes_before rules other entry then other ∷ before_later rules entry entries else entry ∷ other ∷ entries

-- entries in print order, which is the one list that `IsPrintOrder` allows
unfoldable pub printed : List SortRule → List Entry → List Entry
printed rules [] = []
printed rules (entry ∷ entries) = before_later rules entry (printed rules entries)
