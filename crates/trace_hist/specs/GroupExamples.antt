-- Rows that a histogram counted, and the tables that they come to, worked by hand (histogram.rst, "hist triggers"). The checker computes them.
use Rattle.std.specs.Prelude.{◌≡◌, ℕ, ◌^◌, ◌-◌, ℤ, pos, neg_ℤ, List, [], ◌∷◌, length, codes}
use Rattle.trace_format.specs.Cells.{Datum, Whole, Bytes}
use Rattle.hist_entries.specs.Hits.{Hit}
use Rattle.hist_entries.specs.HistEntries.{Entry}
use Rattle.trace_hist.specs.Groups.{Table}
use Rattle.trace_hist.specs.Hists.{Seen, StandsFor}

-- whatever else its trigger says, a histogram with room for so many entries, of so many sums, has this table when it has counted the rows
abbrev pub HasTable : ℕ → ℕ → List Hit → Table → Type 0
HasTable size width rows table =
    (hist : Seen) → hist.spec.size ≡ size → length hist.spec.value_sources ≡ width → StandsFor hist rows → hist.table ≡ table

-- ---- one key, one sum

abbrev pub row : ℕ → ℤ → Hit
row key number = record { key = Whole (pos key) ∷ []; numbers = number ∷ [] }

abbrev pub entry : ℕ → ℕ → ℤ → Entry
entry key hitcount sum = record { key = Whole (pos key) ∷ []; hitcount = hitcount; sums = sum ∷ [] }

-- three keys
abbrev pub seven_rows : List Hit
seven_rows =
    row 5 (pos 10)
    ∷ row 3 (neg_ℤ (pos 4))
    ∷ row 7 (pos 100)
    ∷ row 5 (pos 20)
    ∷ row 7 (pos 1)
    ∷ row 3 (neg_ℤ (pos 1))
    ∷ row 5 (pos 3)
    ∷ []

-- with room for two the first two keys have entries, and go on counting; each row of the third is dropped, and summed nowhere
abbrev pub full_table : Table
full_table = record { entries = entry 5 3 (pos 33) ∷ entry 3 2 (neg_ℤ (pos 5)) ∷ []; hits = 5; dropped = 2 }

-- with room for three all have entries, in the order of their first rows
abbrev pub table_with_room : Table
table_with_room = record { entries = entry 5 3 (pos 33) ∷ entry 3 2 (neg_ℤ (pos 5)) ∷ entry 7 2 (pos 101) ∷ []; hits = 7; dropped = 0 }

-- ---- two keys, two sums

-- `a` and a number
abbrev pub pair : ℕ → List Datum
pair n = Bytes (codes "a") ∷ Whole (pos n) ∷ []

abbrev pub two_numbers : ℕ → ℤ → ℤ → Hit
two_numbers n first second = record { key = pair n; numbers = first ∷ second ∷ [] }

abbrev pub rows_of_pairs : List Hit
rows_of_pairs =
    two_numbers 1 (pos 1) (pos (2 ^ 64 - 1)) ∷ two_numbers 2 (pos 10) (neg_ℤ (pos 2)) ∷ two_numbers 1 (pos 2) (pos (2 ^ 64 - 1)) ∷ []

-- both cells tell entries apart; each value has a sum of its own, which may take more than 64 bits
abbrev pub table_of_pairs : Table
table_of_pairs = record {
  entries = record { key = pair 1; hitcount = 2; sums = pos 3 ∷ pos (2 ^ 65 - 2) ∷ [] }
      ∷ record { key = pair 2; hitcount = 1; sums = pos 10 ∷ neg_ℤ (pos 2) ∷ [] }
      ∷ [];
  hits = 3;
  dropped = 0;
}
