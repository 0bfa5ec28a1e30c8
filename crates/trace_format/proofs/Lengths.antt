-- The length of a text field, as it is spelled and as it is read.
use Rattle.std.proofs.Common.{◌≡◌, ℕ, ◌+◌, ◌-◌, ◌*◌, ◌/◌, ◌%◌, ◌<◌, ◌≤◌, Bool, true, false, not, ◌||◌, ◌==◌, nat_lt, if◌then◌else◌, List, [], ◌∷◌, ◌++◌, bytes_eq, Option, None, Some, refl, sym, ap, ◌∙◌, ⊎_elim, arith, true≢false, ◌≢◌, lt-ltb, le-ltb, leb-true, eqb-true}
use Rattle.std.specs.Char.{is_ascii_digit}
use Rattle.std.specs.Fmt.{decimal, digits}
use Rattle.std.proofs.lemmas.Bool.{agree_below_at, and_parts, or_cases, cond-true, cond-false, not-true, eqb-false}
use Rattle.std.proofs.lemmas.Bool.Decides.{nat_tests}
use Rattle.std.proofs.lemmas.Slice.Eq.{bytes_eq-Decides}
use Rattle.trace_format.specs.Reading.{length_of}
use Rattle.trace_lex.proofs.Options.{if_some}

-- a decimal number of at most two digits
abbrev two_digits : ℕ → List ℕ
two_digits n = if nat_lt n 10 then (48 + n) ∷ [] else (48 + n / 10) ∷ (48 + n % 10) ∷ []

decimal_is : (n : ℕ) → n < 65 → decimal n ≡ two_digits n
unfolding digits
decimal_is n small = (bytes_eq-Decides (decimal n) (two_digits n)).0 (agree_below_at (λ k. bytes_eq (decimal k) (two_digits k)) (λ _. true) 65 n refl small)

abbrev is_length : Option ℕ → ℕ → Bool
is_length None n = false
is_length (Some m) n = m == n

is_length-some : (o : Option ℕ) (n : ℕ) → is_length o n ≡ true → o ≡ Some n
is_length-some None n h = absurd (true≢false (sym h))
is_length-some (Some m) n h = ap Some (eqb-true m n h)

-- what is spelled is read
pub length_of-spelled : (n : ℕ) → 1 ≤ n → n ≤ 64 → length_of (decimal n ++ 93 ∷ []) ≡ Some n
unfolding digits
length_of-spelled n low high = is_length-some _ n (or_second n low (agree_below_at (λ k. (k == 0) || is_length (length_of (decimal k ++ 93 ∷ [])) k) (λ _. true) 65 n refl (omega arith)))
  where
    or_second : (n : ℕ) {b : Bool} → 1 ≤ n → ((n == 0) || b) ≡ true → b ≡ true
    or_second n {b} low h = ⊎_elim (λ zero. absurd (omega (arith, eqb-true n 0 zero))) (λ second. second) (or_cases (n == 0) b h)

-- a length as it is read
pub record IsLength (bytes : List ℕ) (n : ℕ) : Type 0 where
  pub low : 1 ≤ n
  pub high : n ≤ 64
  pub spelled : bytes ≡ decimal n ++ 93 ∷ []

digit_from : (a : ℕ) → is_ascii_digit a ≡ true → (48 ≤ a) × (a ≤ 57)
digit_from a h = grind (arith, nat_tests)

one_digit : (a b n : ℕ) → is_ascii_digit a ≡ true → not (a == 48) ≡ true → b ≡ 93 → a - 48 ≡ n → IsLength (a ∷ b ∷ []) n
one_digit a b n digit leading bracket is =
    let range = digit_from a digit in
    let nonzero = eqb-false a 48 (not-true _ leading) in
    let first : a ≢ 48 = nonzero in
    let small : n < 10 = omega arith in
    let text : decimal n ≡ a ∷ [] =
    (let high : n < 65 = omega arith in decimal_is n high) ∙ cond-true _ _ _ (lt-ltb n 10 small) ∙ ap (λ k. k ∷ []) (let e : 48 + n ≡ a = omega arith in e) in
    record {
      low = omega arith;
      high = omega arith;
      spelled = ap (λ k. a ∷ k ∷ []) bracket ∙ sym (ap (λ x. x ++ 93 ∷ []) text);
    }

two_digits_read : (a b c n : ℕ) → is_ascii_digit a ≡ true → not (a == 48) ≡ true → is_ascii_digit b ≡ true → 10 * (a - 48) + (b - 48) ≤ 64 → c ≡ 93 → 10 * (a - 48) + (b - 48) ≡ n → IsLength (a ∷ b ∷ c ∷ []) n
two_digits_read a b c n digit leading digit_b small bracket is =
    let range = digit_from a digit in
    let range_b = digit_from b digit_b in
    let nonzero = eqb-false a 48 (not-true _ leading) in
    let first : a ≢ 48 = nonzero in
    let large : 10 ≤ n = omega arith in
    let tens : 48 + n / 10 ≡ a = omega arith in
    let ones : 48 + n % 10 ≡ b = omega arith in
    let text : decimal n ≡ a ∷ b ∷ [] =
    (let high : n < 65 = omega arith in decimal_is n high) ∙ cond-false _ _ _ (le-ltb n 10 large) ∙ (λ i. tens i ∷ ones i ∷ []) in
    record {
      low = omega arith;
      high = omega arith;
      spelled = ap (λ k. a ∷ b ∷ k ∷ []) bracket ∙ sym (ap (λ x. x ++ 93 ∷ []) text);
    }

-- what is read is spelled so
pub length_of-read : (bytes : List ℕ) (n : ℕ) → length_of bytes ≡ Some n → IsLength bytes n
length_of-read [] n h = absurd (cc)
length_of-read (a ∷ []) n h = absurd (cc)
length_of-read (a ∷ b ∷ []) n h =
    let test = if_some _ h in
    let a_is = and_parts _ _ (and_parts _ _ test.0).0 in
    one_digit a b n a_is.0 a_is.1 (eqb-true b 93 (and_parts _ _ test.0).1) test.1
length_of-read (a ∷ b ∷ c ∷ []) n h =
    let test = if_some _ h in
    let front = and_parts _ _ (and_parts _ _ test.0).0 in
    let back = and_parts _ _ (and_parts _ _ test.0).1 in
    let a_is = and_parts _ _ front.0 in
    two_digits_read a b c n a_is.0 a_is.1 front.1 (leb-true _ _ back.0) (eqb-true c 93 back.1) test.1
length_of-read (a ∷ b ∷ c ∷ d ∷ bytes) n h = absurd (cc)
