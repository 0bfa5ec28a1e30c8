-- What the rows that a histogram counted come to, in a user's own words.
use Rattle.std.specs.Prelude.{◌≡◌, ℕ, suc, ◌+◌, ◌<◌, ◌≤◌, ℤ, pos, ◌+ℤ◌, if◌then◌else◌, List, [], ◌∷◌, ◌++◌, length, map, take, filter, sum_by, AllPairs}
use Rattle.std.specs.declared.cmp.Ordering.TheVariants.{Equal}
use Rattle.trace_format.specs.Cells.{Datum}
use Rattle.trace_format.specs.declared.sort_rule.SortRule.{SortRule}
use Rattle.hist_entries.specs.Hits.{Hit}
use Rattle.hist_entries.specs.HistEntries.{Entry, same_key, is_among}
use Rattle.hist_entries.specs.PrintOrder.{entry_cmp, printed, sum_at}
use Rattle.hist_entries.specs.RowPlaces.{entry_keys}
use Rattle.trace_hist.specs.Groups.{group, with_key}

-- ---- counts

-- each row was counted into an entry or dropped
abbrev pub RowsAreTold : Type 0
RowsAreTold = (size width : ℕ) (rows : List Hit) → (group size width rows).hits + (group size width rows).dropped ≡ length rows

-- the entries' hitcounts are together Hits
abbrev pub HitcountsAreHits : Type 0
HitcountsAreHits =
    (size width : ℕ) (rows : List Hit) → sum_by (λ (entry : Entry). entry.hitcount) (group size width rows).entries ≡ (group size width rows).hits

-- ---- sums

abbrev pub total : List ℤ → ℤ
total [] = pos 0
total (n ∷ ns) = n +ℤ total ns

-- what rows have at an index among their numbers, added up
abbrev pub total_of : ℕ → List Hit → ℤ
total_of index rows = total (map (λ (row : Hit). sum_at row.numbers index) rows)

-- each entry's sum is that of the rows with its key, for each value that there is
abbrev pub SumsAreOfTheirRows : Type 0
SumsAreOfTheirRows =
    (size width index : ℕ) (rows : List Hit) → index < width
    → map (λ (entry : Entry). sum_at entry.sums index) (group size width rows).entries
    ≡ map (λ key. total_of index (with_key key rows)) (entry_keys (group size width rows).entries)

-- the rows whose keys have entries
abbrev pub counted_rows : ℕ → ℕ → List Hit → List Hit
counted_rows size width rows = filter (λ row. is_among (entry_keys (group size width rows).entries) row.key) rows

-- all entries' sums are together those of the rows that were counted
abbrev pub SumsAreOfCountedRows : Type 0
SumsAreOfCountedRows =
    (size width index : ℕ) (rows : List Hit) → index < width
    → total (map (λ (entry : Entry). sum_at entry.sums index) (group size width rows).entries) ≡ total_of index (counted_rows size width rows)

-- ---- entries

-- whatever rows follow, a key that has an entry keeps it, in its place
abbrev pub EntriesStay : Type 0
EntriesStay =
    (size width : ℕ) (rows more : List Hit)
    → take (length (group size width rows).entries) (entry_keys (group size width (rows ++ more)).entries) ≡ entry_keys (group size width rows).entries

-- there is room for each
abbrev pub EntriesFit : Type 0
EntriesFit = (size width : ℕ) (rows : List Hit) → length (group size width rows).entries ≤ size

-- a row is dropped only where there is room for no other
abbrev pub DroppedIsFull : Type 0
DroppedIsFull = (size width : ℕ) (rows : List Hit) → 1 ≤ (group size width rows).dropped → length (group size width rows).entries ≡ size

-- ---- the order of ties

-- how many rows come before the first with a key
abbrev pub rows_before : List Datum → List Hit → ℕ
rows_before key [] = 0
rows_before key (row ∷ rows) = if same_key key row.key then 0 else suc (rows_before key rows)

-- of two entries that tie the one whose first row came first is printed first
abbrev pub TiesAreByFirstRow : Type 0
TiesAreByFirstRow =
    (rules : List SortRule) (size width : ℕ) (rows : List Hit)
    → AllPairs (λ (entry later : Entry). entry_cmp rules entry later ≡ Equal → rows_before entry.key rows < rows_before later.key rows)
    (printed rules (group size width rows).entries)
