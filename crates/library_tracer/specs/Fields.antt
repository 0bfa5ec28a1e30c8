-- The fields of an emission as one string: `NAME=VALUE` for each, with a byte 0 between each two, and optionally one after the last.
use Rattle.std.specs.Prelude.{ℕ, ◌==◌, if◌then◌else◌, List, [], ◌∷◌, Option, Some}
use Rattle.std.specs.Option.{option_map, option_and_then}
use Rattle.trace_format.specs.declared.pair.Pair.{Pair}
use Rattle.trace_script.specs.Lines.{pair_of}

-- a byte before the first of some fields
abbrev pub begun_with : ℕ → List (List ℕ) → List (List ℕ)
begun_with b [] = (b ∷ []) ∷ []
begun_with b (field ∷ fields) = (b ∷ field) ∷ fields

-- the fields of a string: a byte 0 ends one
unfoldable pub fields_in : List ℕ → List (List ℕ)
fields_in [] = []
fields_in (b ∷ bs) = if b == 0 then [] ∷ fields_in bs else begun_with b (fields_in bs)

-- the pair of each: its first `=` separates the name from the value
unfoldable pub pairs_in : List (List ℕ) → Option (List Pair)
pairs_in [] = Some []
pairs_in (field ∷ fields) = option_and_then (λ pair. option_map (λ pairs. pair ∷ pairs) (pairs_in fields)) (pair_of field)
