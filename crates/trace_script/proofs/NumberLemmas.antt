-- Numbers in the words of a script.
use Rattle.std.proofs.Common.{◌≡◌, ◌≤◌, ℕ, ◌-◌, ◌^◌, ◌==◌, pos, neg_ℤ, nat_le, Bool, true, false, cond, List, [], ◌∷◌, Option, Some, None, arith, refl, ap, sym, ◌∙◌}
use Rattle.std.proofs.lemmas.Bool.{eqb-true}
use Rattle.std.proofs.lemmas.Bool.Decides.{nat_tests}
use Rattle.std.specs.Option.{option_map}
use Rattle.trace_lex.specs.Decimals.{decimal_number, up_to}
use Rattle.trace_script.specs.Lines.{number_up_to, process_id}

-- a number that is found is at most as much as it may be
pub found_le : (most : ℕ) (found : Option ℕ) (n : ℕ) → Some n ≡ up_to most found → n ≤ most
found_le most None n e = absurd cc
found_le most (Some m) n e = by_test (nat_le m most) refl e
  where
    by_test : (t : Bool) → nat_le m most ≡ t → Some n ≡ cond t (Some m) None → n ≤ most
    by_test true le e = let same : n ≡ m = cc in grind (arith, nat_tests)
    by_test false le e = absurd cc

-- a number of one digit is not too much
pub small_found : (most n : ℕ) (found : Option ℕ) → found ≡ Some n → n ≤ 9 → 9 ≤ most → Some n ≡ up_to most found
small_found most n None e few much = absurd cc
small_found most n (Some m) e few much = by_test (nat_le m most) refl
  where
    same : m ≡ n
    same = cc

    by_test : (t : Bool) → nat_le m most ≡ t → Some n ≡ cond t (Some m) None
    by_test true le = ap Some (sym same)
    by_test false le = absurd (grind (arith, nat_tests, same))

pub small_id : (text : List ℕ) (n : ℕ) → decimal_number text ≡ Some n → n ≤ 9 → Some (pos n) ≡ process_id text
unfolding process_id
small_id [] n e few = absurd cc
small_id (b ∷ bs) n e few = by_test (b == 45) refl
  where
    by_test : (t : Bool) → (b == 45) ≡ t
        → Some (pos n) ≡ cond t (option_map (λ n. neg_ℤ (pos n)) (number_up_to (2 ^ 31) bs)) (option_map pos (number_up_to (2 ^ 31 - 1) (b ∷ bs)))
    by_test false f = ap (option_map pos) (small_found (2 ^ 31 - 1) n (decimal_number (b ∷ bs)) e few (omega arith))
    by_test true f =
        let is : b ≡ 45 = eqb-true b 45 f in
        let none : decimal_number (b ∷ bs) ≡ None = ap (λ (x : ℕ). decimal_number (x ∷ bs)) is in
        absurd (let no : ◌≡◌ {A = Option ℕ} None (Some n) = sym none ∙ e in cc)
