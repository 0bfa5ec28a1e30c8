-- Lines that are written one after the other.
use Rattle.std.proofs.Common.{◌≡◌, ◌+◌, ◌<◌, ℕ, suc, List, ◌∷◌, ◌++◌, drop, get_or, length, ap, sym, ◌∙◌, add-one, append_assoc, drop-cons}
use Rattle.std.specs.List.{flat_map}

-- what is left after the first of some that are left
rest_of : (A : Type 0) (xs : List A) (i : ℕ) (x : A) → i < length xs → x ≡ get_or xs i x → drop i xs ≡ x ∷ drop (i + 1) xs
rest_of A xs i x within is = rw add-one (drop-cons xs i x within ∙ ap (λ (first : A). first ∷ drop (suc i) xs) (sym is))

-- the line of one more, where those of all that are left are still to come
pub one_written : (A : Type 0) (f : A → List ℕ) (xs : List A) (i : ℕ) (x : A) (all now new : List ℕ) → i < length xs → x ≡ get_or xs i x
    → now ++ flat_map f (drop i xs) ≡ all → new ≡ now ++ f x → new ++ flat_map f (drop (i + 1) xs) ≡ all
one_written A f xs i x all now new within is before step =
    ap (λ (text : List ℕ). text ++ flat_map f (drop (i + 1) xs)) step
    ∙ append_assoc now (f x) (flat_map f (drop (i + 1) xs))
    ∙ ap (λ (left : List A). now ++ flat_map f left) (sym (rest_of A xs i x within is))
    ∙ before
