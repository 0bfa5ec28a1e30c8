-- What `without_end`, `trimmed`, `digits_of` and `decimal_number` say, as theorems that speak of no program.
use Rattle.std.specs.Prelude.{◌≡◌, ◌⊎◌, ◌↔◌, ℕ, ◌+◌, ◌-◌, ◌*◌, ◌<◌, ◌≤◌, false, IsTrue, IsSome, List, [], ◌∷◌, ◌++◌, length, All, None, Some}
use Rattle.std.specs.Char.{is_digit, digit_value}
use Rattle.std.specs.List.{Any}
use Rattle.trace_lex.specs.Blanks.{trimmed, without_end, IsBeforeBlanks, IsBetweenBlanks}
use Rattle.trace_lex.specs.Decimals.{decimal_number}
use Rattle.trace_lex.specs.Numbers.{digits_of}

-- ---- blanks

-- a text without the blanks at its end is what only blanks follow in it; with no blanks at both ends it is what only blanks surround
abbrev pub WithoutEndIsBefore : Type 0
WithoutEndIsBefore = (text body : List ℕ) → (without_end text ≡ body) ↔ IsBeforeBlanks text body

abbrev pub TrimmedIsBetween : Type 0
TrimmedIsBetween = (text body : List ℕ) → (trimmed text ≡ body) ↔ IsBetweenBlanks text body

-- ---- digits; these three give the value of every text

-- one digit has its own value
abbrev pub OneDigit : Type 0
OneDigit = (base digit : ℕ) → IsTrue (is_digit digit base) → digits_of base (digit ∷ []) ≡ Some (digit_value digit)

-- with one more digit at the end the value is base times what it was, and that digit's value
abbrev pub OneMoreDigit : Type 0
OneMoreDigit = (base : ℕ) → (digits : List ℕ) → (value digit : ℕ) → digits_of base digits ≡ Some value → IsTrue (is_digit digit base) → digits_of base (digits ++ digit ∷ []) ≡ Some (base * value + digit_value digit)

-- there is no value exactly where there are no digits, or a byte that is no digit of the base
abbrev pub NoDigits : Type 0
NoDigits = (base : ℕ) → (text : List ℕ) → (digits_of base text ≡ None) ↔ ((text ≡ []) ⊎ Any (λ byte. is_digit byte base ≡ false) text)

-- ---- decimal numbers

-- a digit from `0` (48) to `9` (57)
abbrev pub IsDigit : ℕ → Type 0
IsDigit b = (48 ≤ b) × (b ≤ 57)

-- a text writes a decimal number exactly where it is digits, one at least
abbrev pub NumbersAreOfDigits : Type 0
NumbersAreOfDigits = (text : List ℕ) → IsSome (decimal_number text) ↔ ((0 < length text) × All IsDigit text)

-- one digit writes its value
abbrev pub OneDigitIsItsValue : Type 0
OneDigitIsItsValue = (d : ℕ) → IsDigit d → decimal_number (d ∷ []) ≡ Some (d - 48)

-- one digit more writes ten times the number, and the digit
abbrev pub EachDigitIsTimesTen : Type 0
EachDigitIsTimesTen = (ds : List ℕ) (n d : ℕ) → decimal_number ds ≡ Some n → IsDigit d → decimal_number (ds ++ d ∷ []) ≡ Some (10 * n + (d - 48))
