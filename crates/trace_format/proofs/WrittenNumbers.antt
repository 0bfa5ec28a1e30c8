-- The text that an emission writes for a number is read as this number.
use Rattle.std.proofs.Common.{◌≡◌, ℕ, zero, suc, ◌+◌, ◌<◌, ◌≤◌, ◌^◌, ℤ, pos, negsuc, neg_ℤ, int_le, true, false, ◌&&◌, ◌==◌, List, [], ◌∷◌, get_or, Some, option_map, option_and_then, refl, sym, ap, ◌∙◌, arith, lt-ltb, le-leb, SFits}
use Rattle.std.specs.Char.{is_digit, digit_value}
use Rattle.std.specs.Fmt.{decimal, signed_decimal}
use Rattle.std.specs.Int.{w64}
use Rattle.std.specs.List.{list_all}
use Rattle.std.specs.Str.Parse.{AllDigits, IsNumeral, digits_value}
use Rattle.std.proofs.lemmas.Bool.{cond-true, cond-false, and_from, and_parts}
use Rattle.std.proofs.lemmas.Bool.Decides.{nat_tests}
use Rattle.std.proofs.lemmas.Fmt.{decimal_digit, decimal_is_IsNumeral, first_decimal}
use Rattle.trace_lex.specs.Numbers.{magnitude_of, below, number_of}
use Rattle.trace_format.specs.declared.kind.NumberType.{NumberType}
use Rattle.trace_format.specs.declared.kind.Kind.TheVariants.{Number}
use Rattle.trace_format.specs.Kinds.{least, greatest}
use Rattle.trace_format.specs.Cells.{Whole}
use Rattle.trace_format.specs.Rows.{number_in, value_of}
use Rattle.trace_format.proofs.MagnitudeLemmas.{least_low}

all_digits : (text : List ℕ) → AllDigits 10 text → list_all (λ digit. is_digit digit 10) text ≡ true
all_digits [] are = refl
all_digits (b ∷ bs) are = and_from _ _ (lt-ltb (digit_value b) 10 are.0) (all_digits bs are.1)

-- digits are read in base 10 where the first is none of `0`
digits_read : (n : ℕ) (text : List ℕ) → IsNumeral 10 text → digits_value 10 text ≡ n → 48 < get_or text 0 0 → magnitude_of text ≡ Some n
digits_read n [] is value first = absurd (omega (arith, is.0))
digits_read n (b ∷ bs) is value first =
    let other : (b == 48) ≡ false = grind (arith, nat_tests, first) in
    cond-false _ _ _ other ∙ cond-true _ _ _ (all_digits (b ∷ bs) is.1) ∙ ap Some value

magnitude_of_decimal : (n : ℕ) → n < 2 ^ 64 → magnitude_of (decimal n) ≡ Some n
magnitude_of_decimal zero small = ap magnitude_of (decimal_digit 0 (omega arith))
magnitude_of_decimal (suc n) small =
    let is = decimal_is_IsNumeral (suc n) small in
    digits_read (suc n) (decimal (suc n)) is.0 is.1 (first_decimal (suc n) (omega arith) small)

first_digit : (n : ℕ) → n < 2 ^ 64 → 48 ≤ get_or (decimal n) 0 0
first_digit zero small = omega (arith, ap (λ (text : List ℕ). get_or text 0 0) (decimal_digit 0 (omega arith)))
first_digit (suc n) small = omega (arith, first_decimal (suc n) (omega arith) small)

-- a numeral is a number where no `-` comes first
plain_number : (n : ℕ) (text : List ℕ) → n < 2 ^ 64 → 48 ≤ get_or text 0 0 → magnitude_of text ≡ Some n → number_of text ≡ Some (pos n)
plain_number n [] small first is = absurd (omega (arith, first))
plain_number n (b ∷ bs) small first is =
    let plain : (b == 45) ≡ false = grind (arith, nat_tests, first) in
    cond-false _ _ _ plain ∙ ap (λ m. option_map (λ k. pos k) (below (2 ^ 64) m)) is
    ∙ ap (option_map (λ k. pos k)) (cond-true _ _ _ (lt-ltb n (2 ^ 64) small))

number_of_decimal : (n : ℕ) → n < 2 ^ 64 → number_of (decimal n) ≡ Some (pos n)
number_of_decimal n small = plain_number n (decimal n) small (first_digit n small) (magnitude_of_decimal n small)

number_of_signed : (z : ℤ) → SFits w64 z → number_of (signed_decimal z) ≡ Some z
number_of_signed (pos n) fits = number_of_decimal n (omega (arith, fits.sfits))
number_of_signed (negsuc n) fits =
    ap (λ m. option_map (λ k. neg_ℤ (pos k)) (below (2 ^ 63 + 1) m)) (magnitude_of_decimal (suc n) (omega (arith, fits.sfits)))
    ∙ ap (option_map (λ k. neg_ℤ (pos k))) (cond-true _ _ _ (lt-ltb (suc n) (2 ^ 63 + 1) (omega (arith, fits.sfits))))

-- a number that a field holds is its value
held : (t : NumberType) (text : List ℕ) (z : ℤ) → number_of text ≡ Some z → int_le (least t) z ≡ true → int_le z (greatest t) ≡ true → value_of (Number t) text ≡ Some (Whole z)
unfolding value_of
held t text z read low high = ap (option_and_then (number_in (least t) (greatest t))) read ∙ cond-true _ _ _ (and_from _ _ low high)

pub unsigned_held : (t : NumberType) (n most : ℕ) → n < 2 ^ 64 → pos most ≡ greatest t → n ≤ most → value_of (Number t) (decimal n) ≡ Some (Whole (pos n))
unsigned_held t n most small is within =
    held t (decimal n) (pos n) (number_of_decimal n small) (least_low t n) (ap (int_le (pos n)) (sym is) ∙ le-leb n most within)

pub signed_held : (t : NumberType) (z : ℤ) → SFits w64 z → (int_le (least t) z && int_le z (greatest t)) ≡ true → value_of (Number t) (signed_decimal z) ≡ Some (Whole z)
signed_held t z fits within =
    let both = and_parts (int_le (least t) z) (int_le z (greatest t)) within in
    held t (signed_decimal z) z (number_of_signed z fits) both.0 both.1
