-- NUMBER: the whole numbers that a filter or an emission writes, in decimal, hexadecimal or octal digits.
use Rattle.std.specs.Prelude.{ℕ, ℤ, pos, neg_ℤ, ◌+◌, ◌^◌, ◌==◌, nat_lt, if◌then◌else◌, List, [], ◌∷◌, Option, None, Some, option_map, option_and_then}
use Rattle.std.specs.Char.{is_digit}
use Rattle.std.specs.List.{list_all}
use Rattle.std.specs.Str.Parse.{digits_value}

-- one digit or more in the base, and their value
abbrev pub digits_of : ℕ → List ℕ → Option ℕ
digits_of base [] = None
digits_of base (b ∷ bs) = if list_all (λ digit. is_digit digit base) (b ∷ bs) then Some (digits_value base (b ∷ bs)) else None

-- behind a `0`: nothing, an `x` (120) and hexadecimal digits, or octal digits
abbrev pub after_zero : List ℕ → Option ℕ
after_zero [] = Some 0
after_zero (b ∷ bs) = if b == 120 then digits_of 16 bs else digits_of 8 (b ∷ bs)

-- a numeral without a sign: what follows a `0` (48), or decimal digits
abbrev pub magnitude_of : List ℕ → Option ℕ
magnitude_of [] = None
magnitude_of (b ∷ bs) = if b == 48 then after_zero bs else digits_of 10 (b ∷ bs)

-- the value, if it is below a limit
abbrev pub below : ℕ → Option ℕ → Option ℕ
below limit value = option_and_then (λ n. if nat_lt n limit then Some n else None) value

-- the number that a text writes: a numeral, perhaps behind a `-` (45); it is below 2^64 and not below -2^63
abbrev pub number_of : List ℕ → Option ℤ
number_of [] = None
number_of (b ∷ bs) = if b == 45 then option_map (λ n. neg_ℤ (pos n)) (below (2 ^ 63 + 1) (magnitude_of bs)) else option_map (λ n. pos n) (below (2 ^ 64) (magnitude_of (b ∷ bs)))
