-- How many entries a histogram may have (histogram.rst, "hist triggers", `size`).
use Rattle.std.specs.Prelude.{ℕ, nat_le, if◌then◌else◌, List, [], ◌∷◌, Option, None, Some}

-- the powers of two from 2^7 to 2^17
abbrev pub sizes : List ℕ
sizes = 128 ∷ 256 ∷ 512 ∷ 1024 ∷ 2048 ∷ 4096 ∷ 8192 ∷ 16384 ∷ 32768 ∷ 65536 ∷ 131072 ∷ []

-- the first of rising sizes that is not below a number
abbrev pub first_from : List ℕ → ℕ → Option ℕ
first_from [] entries = None
first_from (size ∷ sizes) entries = if nat_le entries size then Some size else first_from sizes entries

-- a number of entries, rounded up to a power of two, if that is from 128 to 131,072
abbrev pub rounded_size : ℕ → Option ℕ
rounded_size entries = if nat_le entries 64 then None else first_from sizes entries
