-- Sums of what is open.
use Rattle.std.proofs.Common.{◌≡◌, ℕ, ◌+◌, List, [], ◌∷◌, ◌++◌, reverse, refl, ap, ◌∙◌, arith}
use Rattle.std.specs.List.{sum}
use Rattle.std.proofs.lemmas.List.Sums.{sum_by-cons}
use Rattle.std.proofs.lemmas.List.{reverse-append, length-reverse}

pub sum-cons : (x : ℕ) (xs : List ℕ) → sum (x ∷ xs) ≡ x + sum xs
sum-cons x xs = sum_by-cons (λ y. y) x xs

sum-push : (xs : List ℕ) (x : ℕ) → sum (xs ++ x ∷ []) ≡ sum xs + x
sum-push [] x = omega (arith, sum-cons x [])
sum-push (y ∷ xs) x = omega (arith, sum-push xs x, sum-cons y (xs ++ x ∷ []), sum-cons y xs)

pub sum-reverse : (xs : List ℕ) → sum (reverse xs) ≡ sum xs
sum-reverse [] = refl
sum-reverse (x ∷ xs) =
    let e : sum xs + x ≡ sum (x ∷ xs) = omega (arith, sum-cons x xs) in
    ap sum (reverse-append (x ∷ []) xs) ∙ sum-push (reverse xs) x ∙ ap (λ s. s + x) (sum-reverse xs) ∙ e

pub ruleset sums = (sum-reverse, length-reverse)
