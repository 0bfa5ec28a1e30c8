-- Lists of entries. Each entry stands under the number of the caller that made it, its name, and `by` tells that number.
use Rattle.std.specs.Prelude.{◌≡◌, ℕ, ◌<◌, Bool, List, [], ◌++◌, ◌&&◌, if◌then◌else◌, filter, length, nat_le, nat_lt}

-- whether the entry stands under one of the names from `low` up to below `end`
abbrev pub is_under : {E : Type 0} → (E → ℕ) → ℕ → ℕ → E → Bool
is_under by low end e = nat_le low (by e) && nat_lt (by e) end

-- the entries of the list under these names, in their order
abbrev pub entries_under : {E : Type 0} → (E → ℕ) → ℕ → ℕ → List E → List E
entries_under by low end es = filter (is_under by low end) es

-- the list `all` begins with `seen`, and what comes after that has no entry under these names
abbrev pub Continues : {E : Type 0} → (E → ℕ) → ℕ → ℕ → List E → List E → Type 0
Continues {E} by low end seen all = (rest : List E) × (all ≡ seen ++ rest) × (entries_under by low end rest ≡ [])

-- one entry was made before another
abbrev pub IsBefore : {E : Type 0} → (E → ℕ) → E → E → Type 0
IsBefore ticket d e = ticket d < ticket e

-- the longer of two lists
abbrev pub longer_of : {E : Type 0} → List E → List E → List E
longer_of ds es = if nat_lt (length ds) (length es) then es else ds
