-- Where a key is looked up.
use Rattle.std.specs.Prelude.{◌≡◌, ℕ, false, List, Option, Some, MatchOption, slice_get}
use Rattle.trace_format.specs.Cells.{Datum}
use Rattle.hist_entries.specs.HistEntries.{is_among}

-- where a key stands among those of the entries: at this index, or nowhere
abbrev pub IsIndexOf : Option ℕ → List Datum → List (List Datum) → Type 0
IsIndexOf found key keys = MatchOption found (is_among keys key ≡ false) (λ index. slice_get keys index ≡ Some key)
