-- A loop that moves elements from one list to the end of another.
use Rattle.std.proofs.Common.{◌≡◌, ℕ, zero, suc, ◌-◌, ◌<◌, List, [], ◌∷◌, ◌++◌, map, take, ap, ◌∙◌, arith}
use Rattle.std.proofs.lemmas.List.{map_push, append_assoc}

pub take_front : {X : Type 0} (n : ℕ) (x : X) (xs : List X) → 0 < n → take n (x ∷ xs) ≡ x ∷ take (n - 1) xs
take_front zero x xs h = absurd (omega arith)
take_front (suc n) x xs h = let e : n ≡ suc n - 1 = omega arith in ap (λ (m : ℕ). x ∷ take m xs) e

pub moved_one : {X Z : Type 0} (f : X → Z) (done new : List X) (x : X) (z : Z) (rest all : List Z)
    → map f done ++ (z ∷ rest) ≡ all → new ≡ done ++ x ∷ [] → f x ≡ z → map f new ++ rest ≡ all
moved_one f done new x z rest all h e same =
    ap (λ n. map f n ++ rest) e ∙ ap (λ m. m ++ rest) (map_push f done x) ∙ append_assoc (map f done) (f x ∷ []) rest
    ∙ ap (λ y. map f done ++ (y ∷ rest)) same ∙ h
