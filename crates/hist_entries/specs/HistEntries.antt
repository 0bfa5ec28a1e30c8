-- Entries: the keys of rows, each with the count of its rows and their sums (histogram.rst).
use Rattle.std.specs.Prelude.{ℕ, ℤ, ◌+ℤ◌, Bool, false, bytes_eq, List, [], ◌∷◌}
use Rattle.std.specs.List.{list_any}
use Rattle.std.specs.Cmp.Lexicographic.{pointwise}
use Rattle.std.specs.Ordering.{int_eq}
use Rattle.trace_format.specs.Cells.{Datum, Whole, Bytes}

-- ---- keys

abbrev pub same_cell : Datum → Datum → Bool
same_cell (Whole m) (Whole n) = int_eq m n
same_cell (Whole m) (Bytes c) = false
same_cell (Bytes b) (Whole n) = false
same_cell (Bytes b) (Bytes c) = bytes_eq b c

-- keys are the same where they have the same cells in the same order
abbrev pub same_key : List Datum → List Datum → Bool
same_key left right = pointwise same_cell left right

-- whether a key is among others
abbrev pub is_among : List (List Datum) → List Datum → Bool
is_among keys key = list_any (same_key key) keys

-- ---- entries

pub record Entry : Type 0 where
  pub key : List Datum
  pub hitcount : ℕ
  pub sums : List ℤ

-- numbers added one by one
abbrev pub added : List ℤ → List ℤ → List ℤ
added [] ns = []
added (m ∷ ms) [] = m ∷ ms
added (m ∷ ms) (n ∷ ns) = (m +ℤ n) ∷ added ms ns
