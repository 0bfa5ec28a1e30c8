-- Two lists side by side, at the end of a loop over both.
use Rattle.std.proofs.Common.{◌≡◌, ◌∷◌, ◌++◌, ℕ, zero, suc, ◌≤◌, List, [], length, drop, min, refl, sym, ap, ◌∙◌, append-nil, arith}
use Rattle.std.specs.List.{flat_map, zip}

nothing_beside : {A B : Type 0} (xs : List A) → zip {X = B} xs [] ≡ []
nothing_beside [] = refl
nothing_beside (x ∷ xs) = refl

-- with nothing left of one, nothing is left of both
none_left : {A B : Type 0} (xs : List A) (ys : List B) (i : ℕ) → min (length xs) (length ys) ≤ i → zip (drop i xs) (drop i ys) ≡ []
none_left [] [] zero h = refl
none_left [] [] (suc i) h = refl
none_left [] (y ∷ ys) zero h = refl
none_left [] (y ∷ ys) (suc i) h = refl
none_left (x ∷ xs) [] zero h = refl
none_left (x ∷ xs) [] (suc i) h = nothing_beside (drop i xs)
none_left (x ∷ xs) (y ∷ ys) zero h = absurd (omega (arith, h))
none_left (x ∷ xs) (y ∷ ys) (suc i) h = none_left xs ys i (omega (arith, h))

-- so all was written
pub all_written : {A B : Type 0} (f : A × B → List ℕ) (xs : List A) (ys : List B) (i : ℕ) (written all : List ℕ) → i ≡ min (length xs) (length ys)
    → written ++ flat_map f (zip (drop i xs) (drop i ys)) ≡ all → written ≡ all
all_written f xs ys i written all end invariant =
    sym (append-nil written) ∙ ap (λ pairs. written ++ flat_map f pairs) (sym (none_left xs ys i (omega (arith, end)))) ∙ invariant
