-- Lists with one more at their end.
use Rattle.std.proofs.Common.{◌≡◌, List, [], ◌∷◌, ◌++◌, length, refl, ap, ◌∙◌, arith}
use Rattle.std.proofs.lemmas.List.{length-append}

-- the first of a list; another where there is none
abbrev first_or : {X : Type 0} → X → List X → X
first_or d [] = d
first_or d (x ∷ xs) = x

abbrev rest : {X : Type 0} → List X → List X
rest [] = []
rest (x ∷ xs) = xs

-- two that are equal have the same end, and the same before it
pub one_end : {X : Type 0} (xs ys : List X) (x y : X) → xs ++ x ∷ [] ≡ ys ++ y ∷ [] → (xs ≡ ys) × (x ≡ y)
one_end [] [] x y is = (refl, ap (first_or x) is)
one_end {X} [] (b ∷ ys) x y is = absurd (long ys (ap length (ap rest is)))
  where
    long : (ys : List X) → 0 ≡ length (ys ++ y ∷ []) → ⊥
    long ys at = omega (arith, at, length-append ys (y ∷ []))
one_end {X} (a ∷ xs) [] x y is = absurd (short xs (ap length (ap rest is)))
  where
    short : (xs : List X) → length (xs ++ x ∷ []) ≡ 0 → ⊥
    short xs at = omega (arith, at, length-append xs (x ∷ []))
one_end {X} (a ∷ xs) (b ∷ ys) x y is =
    let more = one_end xs ys x y (ap rest is) in
    (ap (λ (first : X). first ∷ xs) (ap (first_or a) is) ∙ ap (λ (left : List X). b ∷ left) more.0, more.1)
