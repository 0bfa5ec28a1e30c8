-- A value lies in its bucket, and in no other.
use Rattle.std.proofs.Common.{◌≡◌, ◌⊎◌, inl, inr, refl, ℕ, zero, suc, ◌+◌, ◌-◌, ◌*◌, ◌/◌, ◌^◌, ◌<◌, ◌≤◌, max, Bool, true, false, cond, List, ℤ, pos, negsuc, neg_ℤ, ◌+ℤ◌, ◌-ℤ◌, ◌≤ℤ◌, ◌<ℤ◌, ap, sym, ◌∙◌, subst, arith}
use Rattle.std.specs.Prelude.{int_lt}
use Rattle.std.specs.List.{prefix_len, range_with_len}
use Rattle.std.specs.Int.{int_rem_euclid}
use Rattle.std.proofs.Math.Nat.{div-add-mod, mod-lt, mod-eq_of_lt, mul-suc, mul-le-mul_left}
use Rattle.std.proofs.lemmas.Bool.{cases_lt}
use Rattle.std.proofs.lemmas.Int.{ints}
use Rattle.trace_format.specs.Modifiers.{IsSuffix}
use Rattle.trace_format.specs.declared.modifier.Modifier.{Modifier}
use Rattle.trace_format.specs.declared.modifier.Modifier.TheVariants.{Plain, Hex, Log2, Buckets}
use Rattle.hist_entries.specs.Buckets.{log2_of, lowest_of, bucket_of, pattern_of, IsMultiple, LiesIn}

-- ---- powers of 2

-- the numbers from one on that pass, and the first that doesn't
record IsRun (p : ℕ → Bool) (from left run : ℕ) : Type 0 where
  within : run ≤ left
  passes : (j : ℕ) → j < run → p (from + j) ≡ true
  stops : run < left → p (from + run) ≡ false

run_of : (p : ℕ → Bool) (from left : ℕ) → IsRun p from left (prefix_len p (range_with_len from left))
run_of p from zero = record { within = omega arith; passes = λ j l. absurd (omega (arith, l)); stops = λ l. absurd (omega (arith, l)) }
run_of p from (suc left) = by (p from) refl (run_of p (from + 1) left)
  where
    here : from + 0 ≡ from
    here = omega arith

    by : (b : Bool) → p from ≡ b → IsRun p (from + 1) left (prefix_len p (range_with_len (from + 1) left)) → IsRun p from (suc left) (cond b (1 + prefix_len p (range_with_len (from + 1) left)) 0)
    by false e rest = record { within = omega arith; passes = λ j l. absurd (omega (arith, l)); stops = λ l. ap p here ∙ e }
    by true e rest = record {
      within = omega (arith, rest.within);
      passes = λ j l. each j l;
      stops = λ l. (let same : from + (1 + prefix_len p (range_with_len (from + 1) left)) ≡ from + 1 + prefix_len p (range_with_len (from + 1) left) = omega arith in ap p same ∙ rest.stops (omega (arith, l)));
    }
      where
        each : (j : ℕ) → j < 1 + prefix_len p (range_with_len (from + 1) left) → p (from + j) ≡ true
        each zero l = ap p here ∙ e
        each (suc j) l = let same : from + suc j ≡ from + 1 + j = omega arith in ap p same ∙ rest.passes j (omega (arith, l))

abbrev is_below : ℤ → ℕ → Bool
is_below n k = int_lt (pos (2 ^ k)) n

log2_runs : (n : ℤ) → IsRun (is_below n) 0 64 (log2_of n)
unfolding log2_of
log2_runs n = run_of (is_below n) 0 64

below_is : (n : ℤ) (k : ℕ) → is_below n k ≡ true → pos (2 ^ k) <ℤ n
below_is n k e = grind (arith, ints)

most_is : (n : ℤ) (k : ℕ) → is_below n k ≡ false → n ≤ℤ pos (2 ^ k)
most_is n k e = grind (arith, ints)

log2_most : (n : ℤ) → n ≤ℤ pos (2 ^ 64 - 1) → n ≤ℤ pos (2 ^ log2_of n)
log2_most n fits = by (cases_lt (log2_of n) 64)
  where
    runs : IsRun (is_below n) 0 64 (log2_of n)
    runs = log2_runs n

    by : (log2_of n < 64) ⊎ (64 ≤ log2_of n) → n ≤ℤ pos (2 ^ log2_of n)
    by (inl less) = let start : 0 + log2_of n ≡ log2_of n = omega arith in most_is n (log2_of n) (ap (is_below n) (sym start) ∙ runs.stops less)
    by (inr past) =
        let all : 64 ≡ log2_of n = omega (arith, past, runs.within) in
        let top : n ≤ℤ pos (2 ^ 64) = omega (arith, ints, fits) in
        subst (λ k. n ≤ℤ pos (2 ^ k)) all top

log2_below : (n : ℤ) (j : ℕ) → j < log2_of n → pos (2 ^ j) <ℤ n
log2_below n j less = let runs = log2_runs n in let start : 0 + j ≡ j = omega arith in below_is n j (ap (is_below n) (sym start) ∙ runs.passes j less)

-- of two such numbers none is less
log2_once : (n : ℤ) (one other : ℕ) → n ≤ℤ pos (2 ^ one) → ((j : ℕ) → j < other → pos (2 ^ j) <ℤ n) → other ≤ one
log2_once n one other most below = by (cases_lt one other)
  where
    by : (one < other) ⊎ (other ≤ one) → other ≤ one
    by (inl less) = let over = below one less in absurd (omega (arith, ints, over, most))
    by (inr fine) = fine

-- ---- multiples

-- a multiple above another is a size above it at least
times_apart : (size one other : ℕ) → size * one < size * other → size * one + size ≤ size * other
times_apart size one other less = by (cases_lt one other)
  where
    by : (one < other) ⊎ (other ≤ one) → size * one + size ≤ size * other
    by (inl l) = let more : suc one ≤ other = omega (arith, l) in omega (arith, mul-suc size one, mul-le-mul_left size more)
    by (inr l) = absurd (omega (arith, less, mul-le-mul_left size l))

-- and both are no 0, where they are on two sides of it
apart_over : (size one other : ℕ) → 0 < size * one + size * other → size ≤ size * one + size * other
apart_over size zero zero some = absurd (omega (arith, some))
apart_over size (suc one) other some = omega (arith, mul-suc size one)
apart_over size one (suc other) some = omega (arith, mul-suc size other)

pub multiples_apart : (size : ℕ) (one other : ℤ) → IsMultiple size one → IsMultiple size other → one <ℤ other → (one +ℤ pos size) ≤ℤ other
multiples_apart size one other (m, inl e) (n, inl f) less =
    let l : size * m < size * n = omega (arith, ints, e, f, less) in omega (arith, ints, e, f, times_apart size m n l)
multiples_apart size one other (m, inl e) (n, inr f) less = absurd (omega (arith, ints, e, f, less))
multiples_apart size one other (m, inr e) (n, inl f) less =
    let l : 0 < size * m + size * n = omega (arith, ints, e, f, less) in omega (arith, ints, e, f, apart_over size m n l)
multiples_apart size one other (m, inr e) (n, inr f) less =
    let l : size * n < size * m = omega (arith, ints, e, f, less) in omega (arith, ints, e, f, times_apart size n m l)

-- ---- the greatest multiple

size_is : (size : ℕ) → 1 ≤ size → max size 1 ≡ size
size_is size some = omega (arith, some)

lowest_above : (size a : ℕ) → 1 ≤ size → lowest_of size (pos a) ≡ pos (size * (a / size))
lowest_above size a some =
    ap (λ s. pos a -ℤ int_rem_euclid (pos a) (pos s)) (size_is size some) ∙ omega (arith, ints, div-add-mod a size)

lowest_below : (size a : ℕ) → 1 ≤ size → lowest_of size (negsuc a) ≡ neg_ℤ (pos (size * suc (a / size)))
lowest_below size a some =
    ap (λ s. negsuc a -ℤ int_rem_euclid (negsuc a) (pos s)) (size_is size some) ∙ omega (arith, ints, div-add-mod a size, mod-lt a {m = size} (omega (arith, some)), mul-suc size (a / size))

lowest_lies : (size : ℕ) (n : ℤ) → 1 ≤ size → LiesIn (Buckets size) n (lowest_of size n)
lowest_lies size (pos a) some =
    let is = lowest_above size a some in
    let rest = div-add-mod a size in
    let less = mod-lt a {m = size} (omega (arith, some)) in
    ((a / size, inl is), omega (arith, ints, is, rest), omega (arith, ints, is, rest, less, some))
lowest_lies size (negsuc a) some =
    let is = lowest_below size a some in
    let rest = div-add-mod a size in
    let less = mod-lt a {m = size} (omega (arith, some)) in
    let next = mul-suc size (a / size) in
    ((suc (a / size), inr is), omega (arith, ints, is, rest, less, next), omega (arith, ints, is, rest, next, some))

either : (a b : ℤ) → (a ≤ℤ b) ⊎ (b <ℤ a)
either a b = by (int_lt b a) refl
  where
    by : (c : Bool) → int_lt b a ≡ c → (a ≤ℤ b) ⊎ (b <ℤ a)
    by true e = inr (grind (arith, ints))
    by false e = inl (grind (arith, ints))

-- a multiple that is at most the number is at most the least value of a bucket that has the number
multiple_least : (size : ℕ) (n bucket multiple : ℤ) → 1 ≤ size → LiesIn (Buckets size) n bucket → IsMultiple size multiple → multiple ≤ℤ n → multiple ≤ℤ bucket
multiple_least size n bucket multiple some (own, least, most) is within = by (either multiple bucket)
  where
    by : (multiple ≤ℤ bucket) ⊎ (bucket <ℤ multiple) → multiple ≤ℤ bucket
    by (inl fine) = fine
    by (inr less) = let apart = multiples_apart size bucket multiple own is less in absurd (omega (arith, ints, apart, most, within, some))

-- ---- the laws

pub lies : (modifier : Modifier) (suffix : List ℕ) (n : ℤ) → IsSuffix modifier suffix → n ≤ℤ pos (2 ^ 64 - 1) → LiesIn modifier n (bucket_of modifier n)
lies Plain suffix n is fits = refl
lies Hex suffix n is fits = refl
lies Log2 suffix n is fits = (log2_of n, refl, log2_most n fits, log2_below n)
lies (Buckets size) suffix n is fits = lowest_lies size n is.2.least

pub only : (modifier : Modifier) (suffix : List ℕ) (n bucket : ℤ) → IsSuffix modifier suffix → n ≤ℤ pos (2 ^ 64 - 1) → LiesIn modifier n bucket → bucket ≡ bucket_of modifier n
only Plain suffix n bucket is fits there = there
only Hex suffix n bucket is fits there = there
only Log2 suffix n bucket is fits (k, e, most, below) =
    let same : k ≡ log2_of n = omega (arith, log2_once n (log2_of n) k (log2_most n fits) below, log2_once n k (log2_of n) most (log2_below n)) in
    e ∙ ap (λ j. pos j) same
only (Buckets size) suffix n bucket is fits there =
    let own = lowest_lies size n is.2.least in
    omega (arith, ints, multiple_least size n (lowest_of size n) bucket is.2.least own there.0 there.1, multiple_least size n bucket (lowest_of size n) is.2.least there own.0 own.1)

pub greatest : (size : ℕ) (n multiple : ℤ) → 1 ≤ size → IsMultiple size multiple → multiple ≤ℤ n → multiple ≤ℤ lowest_of size n
greatest size n multiple some is most = multiple_least size n (lowest_of size n) multiple some (lowest_lies size n some) is most

pub pattern_is : (n : ℤ) → neg_ℤ (pos (2 ^ 63)) ≤ℤ n → n ≤ℤ pos (2 ^ 64 - 1) → (pos (pattern_of n) ≡ n) ⊎ ((n <ℤ pos 0) × (pos (pattern_of n) ≡ n +ℤ pos (2 ^ 64)))
pattern_is (pos a) least most =
    let fits : a < 2 ^ 64 = omega (arith, ints, most) in
    inl (ap (λ m. pos m) (mod-eq_of_lt fits))
pattern_is (negsuc a) least most =
    let fits : a < 2 ^ 64 = omega (arith, ints, least) in
    inr (omega (arith, ints), omega (arith, ints, mod-eq_of_lt fits, fits))
