-- The powers of 2 that are below a number, counted from 2^0 on.
use Rattle.std.proofs.Common.{◌≡◌, refl, ℕ, suc, ◌+◌, ◌-◌, ◌*◌, ◌^◌, ◌<◌, Bool, true, false, cond, ℤ, pos, ◌≤ℤ◌, ◌<ℤ◌, ap, ◌∙◌, arith}
use Rattle.std.specs.Prelude.{int_lt}
use Rattle.std.specs.List.{prefix_len, range_with_len}
use Rattle.std.proofs.Math.Nat.{pow-suc}
use Rattle.std.proofs.lemmas.Int.{ints}
use Rattle.hist_entries.specs.Buckets.{log2_of}

-- how many powers are below a number, from 2^k on, of so many
unfoldable pub run_from : ℤ → ℕ → ℕ → ℕ
run_from n k left = prefix_len (λ j. int_lt (pos (2 ^ j)) n) (range_with_len k left)

pub run_begins : (n : ℤ) → log2_of n ≡ run_from n 0 64
unfolding log2_of run_from
run_begins n = refl

left_is : (k : ℕ) → k < 64 → 64 - k ≡ suc (64 - (k + 1))
left_is k within = omega (arith, within)

pub run_more : (n : ℤ) (k : ℕ) → k < 64 → pos (2 ^ k) <ℤ n → run_from n k (64 - k) ≡ 1 + run_from n (k + 1) (64 - (k + 1))
unfolding run_from
run_more n k within below =
    let test : int_lt (pos (2 ^ k)) n ≡ true = grind (arith, ints) in
    ap (run_from n k) (left_is k within) ∙ ap (λ (b : Bool). cond b (1 + run_from n (k + 1) (64 - (k + 1))) 0) test

pub run_stops : (n : ℤ) (k : ℕ) → k < 64 → n ≤ℤ pos (2 ^ k) → run_from n k (64 - k) ≡ 0
unfolding run_from
run_stops n k within most =
    let test : int_lt (pos (2 ^ k)) n ≡ false = grind (arith, ints) in
    ap (run_from n k) (left_is k within) ∙ ap (λ (b : Bool). cond b (1 + run_from n (k + 1) (64 - (k + 1))) 0) test

pub run_ends : (n : ℤ) → run_from n 64 (64 - 64) ≡ 0
unfolding run_from
run_ends n = refl

pub doubled : (k : ℕ) → 2 ^ (k + 1) ≡ 2 ^ k * 2
doubled k = let next : k + 1 ≡ suc k = omega arith in ap (λ (n : ℕ). 2 ^ n) next ∙ pow-suc 2 k
