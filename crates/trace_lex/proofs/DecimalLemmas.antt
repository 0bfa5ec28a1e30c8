-- The value of digits, and the numbers that they write.
use Rattle.std.proofs.Common.{◌≡◌, ℕ, ◌≤◌, ◌<◌, ◌+◌, ◌*◌, ◌-◌, ◌^◌, suc, Bool, true, false, ◌&&◌, nat_le, List, [], ◌∷◌, ◌++◌, leb, length, get_or, drop, All, IsSome, IfSome, Option, None, Some, refl, sym, ap, ◌∙◌, arith, length-append, lt-ltb}
use Rattle.std.specs.Char.{is_digit as is_digit_in, digit_value}
use Rattle.std.specs.Str.Parse.{digits_value_after}
use Rattle.std.specs.List.{list_all}
use Rattle.std.proofs.Math.Seq.{drop-cons}
use Rattle.std.proofs.lemmas.Bool.{and_parts, leb-true, cond-true, cond-false}
use Rattle.std.proofs.lemmas.Bool.Decides.{nat_tests}
use Rattle.std.proofs.lemmas.List.Folds.{list_all-append}
use Rattle.std.proofs.lemmas.List.Sums.{AllPass-from_list_all, list_all-from_AllPass}
use Rattle.trace_lex.specs.Decimals.{is_digit, value_after, decimal_number}
use Rattle.trace_lex.specs.Numbers.{digits_of, below}
use Rattle.trace_lex.specs.Laws.{IsDigit, NumbersAreOfDigits, OneDigitIsItsValue, EachDigitIsTimesTen}

-- more digits never make a number less
pub value_after-ge : (n : ℕ) (ds : List ℕ) → n ≤ value_after n ds
value_after-ge n [] = omega arith
value_after-ge n (d ∷ ds) = omega (arith, value_after-ge (n * 10 + (d - 48)) ds)

-- where the digits so far are too much, the number is
pub too_much : (most value i : ℕ) (digits : List ℕ) → i < length digits → value_after value (drop i digits) ≡ value_after 0 digits
    → most < value * 10 + (get_or digits i 0 - 48) → leb (value_after 0 digits) most ≡ false
too_much most value i digits within same more =
    let next = value * 10 + (get_or digits i 0 - 48) in
    let e : value_after value (drop i digits) ≡ value_after next (drop (suc i) digits) = ap (value_after value) (drop-cons digits i 0 within) in
    let ge = value_after-ge next (drop (suc i) digits) in
    grind (arith, nat_tests)

-- ---- numbers by their digits

digit-is : (b : ℕ) → is_digit b ≡ true → IsDigit b
digit-is b is = let parts = and_parts (nat_le 48 b) (nat_le b 57) is in (leb-true 48 b parts.0, leb-true b 57 parts.1)

is-digit : (b : ℕ) → IsDigit b → is_digit b ≡ true
is-digit b digit =
    let low : nat_le 48 b ≡ true = grind (arith, nat_tests) in
    let high : nat_le b 57 ≡ true = grind (arith, nat_tests) in
    rw (low, high) refl

all-digits : (text : List ℕ) → All IsDigit text → list_all is_digit text ≡ true
all-digits text digits = list_all-from_AllPass is_digit text (λ k d inside. is-digit (get_or text k d) (digits k d inside))

digits-all : (text : List ℕ) → list_all is_digit text ≡ true → All IsDigit text
digits-all text all = λ k d inside. digit-is (get_or text k d) (AllPass-from_list_all is_digit text all k d inside)

-- digits write a number
digits-write : (text : List ℕ) → 0 < length text → list_all is_digit text ≡ true → decimal_number text ≡ Some (value_after 0 text)
digits-write [] inside all = absurd (omega arith)
digits-write (d ∷ ds) inside all = rw all refl

-- what a number is written by
record IsWritten (text : List ℕ) (n : ℕ) : Type 0 where
  inside : 0 < length text
  all : list_all is_digit text ≡ true
  value : value_after 0 text ≡ n

written-by : (text : List ℕ) (n : ℕ) → decimal_number text ≡ Some n → IsWritten text n
written-by [] n is = absurd (cc)
written-by (d ∷ ds) n is = by (list_all is_digit (d ∷ ds)) refl
  where
    by : (all : Bool) → list_all is_digit (d ∷ ds) ≡ all → IsWritten (d ∷ ds) n
    by true all = record { inside = omega arith; all = all; value = let h : Some (value_after 0 (d ∷ ds)) ≡ Some n = rw all at is in cc }
    by false all = absurd (let h = rw all at is in cc)

pub numbers_are_of_digits : NumbersAreOfDigits
numbers_are_of_digits text = (to (decimal_number text) refl, from)
  where
    to : (number : Option ℕ) → decimal_number text ≡ number → IsSome (decimal_number text) → (0 < length text) × All IsDigit text
    to None is some = absurd (let h = rw is at some in cc)
    to (Some n) is some = let by = written-by text n is in (by.inside, digits-all text by.all)

    from : (0 < length text) × All IsDigit text → IsSome (decimal_number text)
    from digits = rw (digits-write text digits.0 (all-digits text digits.1)) refl

pub one_digit_is_its_value : OneDigitIsItsValue
one_digit_is_its_value d digit = rw (is-digit d digit) (ap Some (omega arith))

value_after-more : (n : ℕ) (ds : List ℕ) (d : ℕ) → value_after n (ds ++ d ∷ []) ≡ 10 * value_after n ds + (d - 48)
value_after-more n [] d = omega arith
value_after-more n (first ∷ ds) d = value_after-more (n * 10 + (first - 48)) ds d

pub each_digit_is_times_ten : EachDigitIsTimesTen
each_digit_is_times_ten ds n d is digit =
    let by = written-by ds n is in
    let more = ds ++ d ∷ [] in
    let last : list_all is_digit (d ∷ []) ≡ true = rw (is-digit d digit) refl in
    let all : list_all is_digit more ≡ true = rw (list_all-append is_digit ds (d ∷ []), by.all, last) refl in
    digits-write more (omega (arith, length-append ds (d ∷ []))) all ∙ ap Some (value_after-more 0 ds d ∙ ap (λ (v : ℕ). 10 * v + (d - 48)) by.value)

-- ---- decimal numbers are digits in base 10

same_digit : (b : ℕ) → is_digit b ≡ is_digit_in b 10
same_digit b = grind (arith, nat_tests)

value_of_digit : (b : ℕ) → is_digit b ≡ true → b - 48 ≡ digit_value b
value_of_digit b is = let digit = digit-is b is in grind (arith, nat_tests, digit.0, digit.1)

all_same : (text : List ℕ) → list_all is_digit text ≡ list_all (λ b. is_digit_in b 10) text
all_same [] = refl
all_same (b ∷ bs) = ap (λ is. is && list_all is_digit bs) (same_digit b) ∙ ap (λ all. is_digit_in b 10 && all) (all_same bs)

value_same : (n : ℕ) (text : List ℕ) → list_all is_digit text ≡ true → value_after n text ≡ digits_value_after 10 n text
value_same n [] all = refl
value_same n (b ∷ bs) all =
    let parts = and_parts (is_digit b) (list_all is_digit bs) all in
    ap (λ d. value_after (n * 10 + d) bs) (value_of_digit b parts.0) ∙ value_same (n * 10 + digit_value b) bs parts.1

in_base_ten : (text : List ℕ) → decimal_number text ≡ digits_of 10 text
in_base_ten [] = refl
in_base_ten (b ∷ bs) = by (list_all is_digit (b ∷ bs)) refl
  where
    by : (all : Bool) → list_all is_digit (b ∷ bs) ≡ all → decimal_number (b ∷ bs) ≡ digits_of 10 (b ∷ bs)
    by true all = cond-true _ _ _ all ∙ ap Some (value_same 0 (b ∷ bs) all) ∙ sym (cond-true _ _ _ (sym (all_same (b ∷ bs)) ∙ all))
    by false all = cond-false _ _ _ all ∙ sym (cond-false _ _ _ (sym (all_same (b ∷ bs)) ∙ all))

-- what was found of a few digits is their value, and below the limit
pub few_are : (text : List ℕ) (found : Option ℕ) → found ≡ decimal_number text → IfSome found (λ n. n < 2 ^ 64) → found ≡ below (2 ^ 64) (digits_of 10 text)
few_are text None is small = ap (below (2 ^ 64)) (is ∙ in_base_ten text)
few_are text (Some n) is small = sym (cond-true _ _ _ (lt-ltb n (2 ^ 64) small)) ∙ ap (below (2 ^ 64)) (is ∙ in_base_ten text)
