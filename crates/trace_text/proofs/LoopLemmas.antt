-- One turn of a loop that writes a text for each element of a list: what was written and what is left to write are all, as before.
use Rattle.std.proofs.Common.{◌≡◌, ℕ, List, ◌∷◌, ◌++◌, ap, ◌∙◌, append_assoc}
use Rattle.std.specs.List.{flat_map, zip}
use Rattle.record_text.proofs.LoopLemmas.{one_more}

-- with a text before each element
pub one_more_after : {X : Type 0} (f : X → List ℕ) (before : List ℕ) (x : X) (left rest : List X) (old next new all : List ℕ) → left ≡ x ∷ rest → next ≡ old ++ before → new ≡ next ++ f x
    → old ++ flat_map (λ y. before ++ f y) left ≡ all → new ++ flat_map (λ y. before ++ f y) rest ≡ all
one_more_after f before x left rest old next new all first began written so_far =
    one_more (λ y. before ++ f y) x left rest old new all first
    (written ∙ ap (λ text. text ++ f x) began ∙ append_assoc old before (f x)) so_far

-- two lists side by side
pub pair_more : {X Y : Type 0} (f : X × Y → List ℕ) (x : X) (y : Y) (xs xs' : List X) (ys ys' : List Y) (old new all : List ℕ) → xs ≡ x ∷ xs' → ys ≡ y ∷ ys' → new ≡ old ++ f (x, y)
    → old ++ flat_map f (zip xs ys) ≡ all → new ++ flat_map f (zip xs' ys') ≡ all
pair_more f x y xs xs' ys ys' old new all first second written so_far =
    let pairs : zip xs ys ≡ (x, y) ∷ zip xs' ys' = (λ i. zip (first i) (second i)) in
    one_more f (x, y) (zip xs ys) (zip xs' ys') old new all pairs written so_far
