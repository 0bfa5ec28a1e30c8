-- How often a number is there.
use Rattle.std.proofs.Common.{◌≡◌, ℕ, ◌+◌, zero, suc, List, [], ◌∷◌, ◌++◌, map, Some, arith}
use Rattle.std.specs.List.{remove, slice_get}
use Rattle.mount_replies.specs.ParkedLaws.{times}

pub times-append : (u : ℕ) (xs ys : List ℕ) → times u (xs ++ ys) ≡ times u xs + times u ys
times-append u [] ys = omega arith
times-append u (x ∷ xs) ys = let rest : times u (xs ++ ys) ≡ times u xs + times u ys = times-append u xs ys in omega (arith, rest)

pub times-joined : {A : Type 0} (f : A → ℕ) (u : ℕ) (xs ys : List A) → times u (map f (xs ++ ys)) ≡ times u (map f xs) + times u (map f ys)
times-joined f u [] ys = omega arith
times-joined f u (x ∷ xs) ys =
    let rest : times u (map f (xs ++ ys)) ≡ times u (map f xs) + times u (map f ys) = times-joined f u xs ys in omega (arith, rest)

pub times-removed : {A : Type 0} (f : A → ℕ) (u : ℕ) (xs : List A) (i : ℕ) (x : A) → slice_get xs i ≡ Some x
    → times u (map f xs) ≡ times u (f x ∷ []) + times u (map f (remove xs i))
times-removed f u [] zero x is = absurd (cc)
times-removed f u [] (suc i) x is = absurd (cc)
times-removed f u (y ∷ ys) zero x is = let same : y ≡ x = cc in rw same (omega arith)
times-removed f u (y ∷ ys) (suc i) x is =
    let rest : times u (map f ys) ≡ times u (f x ∷ []) + times u (map f (remove ys i)) = times-removed f u ys i x is in omega (arith, rest)
