-- Lists.
use Rattle.std.proofs.Common.{◌≡◌, Bool, true, false, ◌+◌, List, [], ◌∷◌, ◌++◌, length, reverse, refl, ap, ◌∙◌, one-add}
use Rattle.std.proofs.lemmas.Bool.{cond-true, cond-false}
use Rattle.std.proofs.lemmas.List.{reverse-append}
use Rattle.std.proofs.lemmas.List.Elements.{All-head, All-tail, All-push, All-same}
use Rattle.std.specs.List.{prefix_len, AllPass, AllByRecursion}

pub AllByRecursion-push : {X : Type 0} (P : X → Type 0) (xs : List X) (x : X) → AllByRecursion P xs → P x → AllByRecursion P (xs ++ x ∷ [])
AllByRecursion-push P [] x all h = (h, tt)
AllByRecursion-push P (y ∷ ys) x all h = (all.0, AllByRecursion-push P ys x all.1 h)

-- no run of elements that pass goes on with this list
abbrev pub BeginsNot : {X : Type 0} → (X → Bool) → List X → Type 0
BeginsNot p [] = Unit {0}
BeginsNot p (x ∷ xs) = p x ≡ false

-- a run of elements that pass ends with them
pub run_ends : {X : Type 0} (p : X → Bool) (xs rest : List X) → AllPass p xs → BeginsNot p rest → prefix_len p (xs ++ rest) ≡ length xs
run_ends p [] [] all none = refl
run_ends p [] (x ∷ rest) all none = cond-false (p x) _ 0 none
run_ends {X} p (x ∷ xs) rest all none =
    let P : X → Type 0 = λ y. p y ≡ true in
    cond-true (p x) _ 0 (All-head P x xs all) ∙ ap (λ n. 1 + n) (run_ends p xs rest (All-tail P x xs all) none) ∙ one-add (length xs)

pub AllPass-reverse : {X : Type 0} (p : X → Bool) (xs : List X) → AllPass p xs → AllPass p (reverse xs)
AllPass-reverse p [] all = all
AllPass-reverse {X} p (x ∷ xs) all =
    let P : X → Type 0 = λ y. p y ≡ true in
    All-same P _ _ (reverse-append (x ∷ []) xs) (All-push P (reverse xs) x (AllPass-reverse p xs (All-tail P x xs all)) (All-head P x xs all))
