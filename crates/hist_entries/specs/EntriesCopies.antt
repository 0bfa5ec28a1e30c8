-- Copied entries: their cells in one list, and their sums in another, each entry's after that of the entry before.
use Rattle.std.specs.Prelude.{◌≡◌, ℕ, ℤ, ◌+◌, List, [], ◌∷◌, length, take, drop}
use Rattle.trace_format.specs.Cells.{Datum}
use Rattle.hist_entries.specs.HistEntries.{Entry}
use Rattle.hist_entries.specs.declared.entries_copy.Head.{Head}

-- the entries that they are
abbrev pub entries_of : List Head → List Datum → List ℤ → List Entry
entries_of [] cells sums = []
entries_of (head ∷ heads) cells sums =
    record { key = take head.cells cells; hitcount = head.hitcount; sums = take head.sums sums }
    ∷ entries_of heads (drop head.cells cells) (drop head.sums sums)

-- how many cells and sums they have
abbrev pub cell_count : List Head → ℕ
cell_count [] = 0
cell_count (head ∷ heads) = head.cells + cell_count heads

abbrev pub sum_count : List Head → ℕ
sum_count [] = 0
sum_count (head ∷ heads) = head.sums + sum_count heads

-- these are all their cells and sums
pub record AreAll (heads : List Head) (cells : List Datum) (sums : List ℤ) : Type 0 where
  pub cells_are : cell_count heads ≡ length cells
  pub sums_are : sum_count heads ≡ length sums
