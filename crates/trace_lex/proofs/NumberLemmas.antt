-- Lemmas on NUMBER.
use Rattle.std.proofs.Common.{◌≡◌, ◌↔◌, ◌⊎◌, inl, inr, ℕ, suc, ◌+◌, ◌*◌, ◌^◌, ◌<◌, ◌≤◌, Bool, true, false, ◌&&◌, nat_lt, nat_le, if◌then◌else◌, IsTrue, List, [], ◌∷◌, ◌++◌, length, Option, None, Some, option_and_then, refl, sym, ap, ◌∙◌, true≢false, arith, ltb-true, ltb-false, lt-ltb, le-ltb, leb-true, le_trans, mul-le-mul_left, mul_comm}
use Rattle.std.proofs.lemmas.Bool.{agree_below_at, cond-true, cond-false, and_from}
use Rattle.std.proofs.lemmas.List.{length-append}
use Rattle.std.proofs.lemmas.List.Folds.{list_all-append, list_all_at}
use Rattle.std.proofs.lemmas.Int.Digits.{digits_value_push}
use Rattle.std.specs.Char.{is_digit, digit_value}
use Rattle.std.specs.List.{list_all, Any}
use Rattle.std.specs.Str.Parse.{digits_value, digits_value_after}
use Rattle.trace_lex.specs.Numbers.{digits_of, below}
use Rattle.trace_lex.proofs.Options.{if_some}

-- one more digit behind a value, where it is a digit and the value stays below 2^64
abbrev pub more : ℕ → ℕ → ℕ → Option ℕ
more base n b = if is_digit b base && nat_lt (n * base + digit_value b) (2 ^ 64) then Some (n * base + digit_value b) else None

-- digits behind a value
abbrev pub digits_after : ℕ → ℕ → List ℕ → Option ℕ
digits_after base n [] = Some n
digits_after base n (b ∷ bs) = option_and_then (λ m. digits_after base m bs) (more base n b)

-- digits make no number smaller
after_ge : (base n : ℕ) (bs : List ℕ) → 1 ≤ base → n ≤ digits_value_after base n bs
after_ge base n [] h = omega arith
after_ge base n (b ∷ bs) h =
    let rest = after_ge base (n * base + digit_value b) bs h in
    let product = mul-le-mul_left n h in
    omega (arith, rest, product)

-- digits that fail or pass the limit give nothing, whatever follows
step : (d u a v : Bool) (f : ℕ → Option ℕ) (m value : ℕ) → (d ≡ true → u ≡ true → f m ≡ (if a && v then Some value else None)) → (u ≡ false → v ≡ false) → option_and_then f (if d && u then Some m else None) ≡ (if (d && a) && v then Some value else None)
step true true a v f m value within beyond = within refl refl
step true false true true f m value within beyond = absurd (true≢false (beyond refl))
step true false true false f m value within beyond = refl
step true false false v f m value within beyond = refl
step false u a v f m value within beyond = refl

digits_after_is : (base n : ℕ) (bs : List ℕ) → 1 ≤ base → n < 2 ^ 64 → digits_after base n bs ≡ (if list_all (λ digit. is_digit digit base) bs && nat_lt (digits_value_after base n bs) (2 ^ 64) then Some (digits_value_after base n bs) else None)
digits_after_is base n [] low small = sym (cond-true _ _ _ (lt-ltb n (2 ^ 64) small))
digits_after_is base n (b ∷ bs) low small =
    let m = n * base + digit_value b in
    step (is_digit b base) (nat_lt m (2 ^ 64)) (list_all (λ digit. is_digit digit base) bs) (nat_lt (digits_value_after base m bs) (2 ^ 64)) (λ k. digits_after base k bs) m (digits_value_after base m bs)
    (λ _ within. digits_after_is base m bs low (ltb-true m (2 ^ 64) within))
    (λ beyond. le-ltb _ _ (le_trans (ltb-false m (2 ^ 64) beyond) (after_ge base m bs low)))

-- few digits write a small number
pub few_power : (i : ℕ) → i < 19 → 10 ^ i ≤ 10 ^ 18
few_power i few = leb-true _ _ (agree_below_at (λ k. nat_le (10 ^ k) (10 ^ 18)) (λ _. true) 19 i refl few)

pub fewer_power : (i : ℕ) → i < 17 → 10 ^ i ≤ 10 ^ 16
fewer_power i few = leb-true _ _ (agree_below_at (λ k. nat_le (10 ^ k) (10 ^ 16)) (λ _. true) 17 i refl few)

limited : (passes : Bool) (value : ℕ) → below (2 ^ 64) (if passes then Some value else None) ≡ (if passes && nat_lt value (2 ^ 64) then Some value else None)
limited true value = refl
limited false value = refl

-- digits read one by one give the value of all, if it is below the limit
pub digits_is : (base : ℕ) (bs : List ℕ) → 1 ≤ base → 0 < length bs → digits_after base 0 bs ≡ below (2 ^ 64) (digits_of base bs)
digits_is base [] low some = absurd (omega arith)
digits_is base (b ∷ bs) low some = digits_after_is base 0 (b ∷ bs) low (omega arith) ∙ sym (limited (list_all (λ digit. is_digit digit base) (b ∷ bs)) (digits_value_after base 0 (b ∷ bs)))

-- ---- what digits write

-- a byte that fails a test is in the list, or all pass
some_fails : {X : Type 0} (p : X → Bool) (xs : List X) → list_all p xs ≡ false → Any (λ x. p x ≡ false) xs
some_fails p [] h = absurd (true≢false h)
some_fails {X} p (x ∷ xs) h = by (p x) refl h (some_fails p xs)
  where
    by : (passes : Bool) → p x ≡ passes → (passes && list_all p xs) ≡ false → (list_all p xs ≡ false → Any (λ y. p y ≡ false) xs) → Any (λ y. p y ≡ false) (x ∷ xs)
    by true e h' others = let it = others h' in (suc it.0, it.1, omega (arith, it.2), it.3, it.4)
    by false e h' others = (0, x, omega arith, refl, e)

fails_then : {X : Type 0} (p : X → Bool) (xs : List X) → Any (λ x. p x ≡ false) xs → list_all p xs ≡ false
fails_then {X} p xs any = list_all_at p xs any.0 any.1 any.2 (ap p any.3 ∙ any.4)

-- the digits of a text that has a value
pub record AreDigits (base : ℕ) (text : List ℕ) (value : ℕ) : Type 0 where
  pub all : list_all (λ digit. is_digit digit base) text ≡ true
  pub value_is : digits_value base text ≡ value

are_digits : (base : ℕ) (text : List ℕ) (value : ℕ) → digits_of base text ≡ Some value → AreDigits base text value
are_digits base [] value h = absurd (cc)
are_digits base (b ∷ bs) value h =
    let test = if_some (list_all (λ digit. is_digit digit base) (b ∷ bs)) h in
    record { all = test.0; value_is = test.1 }

digits_are : (base : ℕ) (text : List ℕ) (value : ℕ) → 0 < length text → list_all (λ digit. is_digit digit base) text ≡ true → digits_value base text ≡ value → digits_of base text ≡ Some value
digits_are base [] value some all is = absurd (omega (arith, some))
digits_are base (b ∷ bs) value some all is = cond-true _ _ _ all ∙ ap Some is

pub one_digit : (base digit : ℕ) → IsTrue (is_digit digit base) → digits_of base (digit ∷ []) ≡ Some (digit_value digit)
one_digit base digit is = digits_are base (digit ∷ []) (digit_value digit) (omega arith) (and_from _ _ is refl) (omega arith)

pub one_more_digit : (base : ℕ) (digits : List ℕ) (value digit : ℕ) → digits_of base digits ≡ Some value → IsTrue (is_digit digit base) → digits_of base (digits ++ digit ∷ []) ≡ Some (base * value + digit_value digit)
one_more_digit base digits value digit h is =
    let before = are_digits base digits value h in
    let all : list_all (λ d. is_digit d base) (digits ++ digit ∷ []) ≡ true = list_all-append (λ d. is_digit d base) digits (digit ∷ []) ∙ and_from _ _ before.all (and_from _ _ is refl) in
    digits_are base (digits ++ digit ∷ []) (base * value + digit_value digit) (omega (arith, length-append digits (digit ∷ []))) all
    (digits_value_push base digits digit ∙ ap (λ n. n * base + digit_value digit) before.value_is ∙ ap (λ n. n + digit_value digit) (mul_comm value base))

pub no_digits : (base : ℕ) (text : List ℕ) → (digits_of base text ≡ None) ↔ ((text ≡ []) ⊎ Any (λ byte. is_digit byte base ≡ false) text)
no_digits base [] = (λ h. inl refl, λ is. refl)
no_digits base (b ∷ bs) = (
  λ h. inr (some_fails (λ d. is_digit d base) (b ∷ bs) (no_value _ _ h)),
  λ is. elim is as (λ w. digits_of base (b ∷ bs) ≡ None) [ inl none ↦ absurd (cc) | inr any ↦ cond-false _ _ _ (fails_then (λ d. is_digit d base) (b ∷ bs) any) ],
)
  where
    no_value : (test : Bool) (value : ℕ) → (if test then Some value else None) ≡ None → test ≡ false
    no_value true value h = absurd (cc)
    no_value false value h = refl
