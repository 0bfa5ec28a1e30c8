-- Numbers in decimal digits, as texts write them.
use Rattle.std.specs.Prelude.{ℕ, ◌+◌, ◌-◌, ◌*◌, ◌^◌, Bool, false, ◌&&◌, nat_lt, nat_le, ◌==◌, if◌then◌else◌, List, [], ◌∷◌, length, Option, Some, None}
use Rattle.std.specs.List.{list_all}
use Rattle.trace_lex.specs.Blanks.{trimmed}

-- a digit from 0 to 9
abbrev pub is_digit : ℕ → Bool
is_digit b = nat_le 48 b && nat_le b 57

-- the number that digits write behind those of n
abbrev pub value_after : ℕ → List ℕ → ℕ
value_after n [] = n
value_after n (d ∷ ds) = value_after (n * 10 + (d - 48)) ds

-- the number that a text writes, where it is one or more digits; leading zeros are free
abbrev pub decimal_number : List ℕ → Option ℕ
decimal_number [] = None
decimal_number (d ∷ ds) = if list_all is_digit (d ∷ ds) then Some (value_after 0 (d ∷ ds)) else None

-- more than one digit, the first of them a zero
abbrev pub has_leading_zero : List ℕ → Bool
has_leading_zero [] = false
has_leading_zero (d ∷ ds) = d == 48 && nat_lt 0 (length ds)

-- a number of at most this much
abbrev pub up_to : ℕ → Option ℕ → Option ℕ
up_to most None = None
up_to most (Some n) = if nat_le n most then Some n else None

-- the number written to a file: a decimal below 2^64, perhaps between blanks
abbrev pub written_number : List ℕ → Option ℕ
written_number text = up_to (2 ^ 64 - 1) (decimal_number (trimmed text))
