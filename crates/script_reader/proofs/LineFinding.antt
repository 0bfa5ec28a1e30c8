-- Lines found by their numbers.
use Rattle.std.proofs.Common.{◌≡◌, ◌↔◌, ℕ, zero, suc, ◌+◌, ◌-◌, ◌<◌, ◌≤◌, List, [], ◌∷◌, drop, Some, None, refl, ap, sym, ◌∙◌, arith}
use Rattle.std.specs.List.{slice_get}
use Rattle.script_reader.specs.PartReads.{IsLineAt}

-- a number before the first is the number of no line
pub before_all : (first number : ℕ) (lines : List (List ℕ)) (line : List ℕ) → number < first → IsLineAt first lines number line → ⊥
before_all first number lines line before (place, same, found) = absurd (omega (arith, same))

next_rest : {X : Type 0} (all xs : List X) (i : ℕ) (x : X) → drop i all ≡ x ∷ xs → drop (suc i) all ≡ xs
next_rest [] xs zero x e = absurd cc
next_rest [] xs (suc i) x e = absurd cc
next_rest (y ∷ ys) xs zero x e = cc
next_rest (y ∷ ys) xs (suc i) x e = next_rest ys xs i x e

-- one more line is passed
pub next_left : (all left lines : List (List ℕ)) (i : ℕ) (line : List ℕ) → left ≡ drop i all → left ≡ line ∷ lines → lines ≡ drop (i + 1) all
next_left all left lines i line dropped is =
    let same : suc i ≡ i + 1 = omega arith in
    sym (next_rest all lines i line (sym dropped ∙ is)) ∙ ap (λ (n : ℕ). drop n all) same

get_left : {X : Type 0} (all : List X) (i k : ℕ) → slice_get (drop i all) k ≡ slice_get all (i + k)
get_left [] zero k = refl
get_left [] (suc i) k = refl
get_left (x ∷ xs) zero k =
    let same : k ≡ 0 + k = omega arith in
    ap (slice_get (x ∷ xs)) same
get_left (x ∷ xs) (suc i) k =
    let same : suc (i + k) ≡ suc i + k = omega arith in
    get_left xs i k ∙ ap (slice_get (x ∷ xs)) same

-- after so many lines the line of this number is the next
pub is_found : (all left lines : List (List ℕ)) (first number : ℕ) (line : List ℕ) → first ≤ number → left ≡ drop (number - first) all → left ≡ line ∷ lines
    → IsLineAt first all number line
is_found all left lines first number line from dropped is = (
  number - first,
  omega (arith, from),
  ap (slice_get all) (omega arith) ∙ sym (get_left all (number - first) 0) ∙ ap (λ (xs : List (List ℕ)). slice_get xs 0) (sym dropped ∙ is),
)

-- where so few lines are, none has this number
pub behind_all : (all left : List (List ℕ)) (first number i : ℕ) (line : List ℕ) → left ≡ drop i all → left ≡ [] → first + i ≤ number → IsLineAt first all number line → ⊥
behind_all all left first number i line dropped none from (place, same, found) =
    let past : slice_get (drop i all) (place - i) ≡ None = ap (λ (xs : List (List ℕ)). slice_get xs (place - i)) (sym dropped ∙ none) in
    let is : slice_get all (i + (place - i)) ≡ Some line = ap (slice_get all) (omega (arith, same, from)) ∙ found in
    let e : None ≡ Some line = sym past ∙ get_left all i (place - i) ∙ is in
    cc

-- later lines have the number that they had
pub left_alike : (all left : List (List ℕ)) (first number later : ℕ) (line : List ℕ) → first ≤ number → left ≡ drop (number - first) all → number ≤ later
    → IsLineAt first all later line ↔ IsLineAt number left later line
left_alike all left first number later line from dropped behind = (
  λ at.
      let place : ℕ = at.0 in (
        later - number,
        omega (arith, behind),
        ap (λ (xs : List (List ℕ)). slice_get xs (later - number)) dropped ∙ get_left all (number - first) (later - number)
            ∙ ap (slice_get all) (omega (arith, at.1, from, behind)) ∙ at.2,
      ),
  λ at. (
    later - first,
    omega (arith, from, behind),
    ap (slice_get all) (omega (arith, at.1, from, behind)) ∙ sym (get_left all (number - first) at.0)
        ∙ ap (λ (xs : List (List ℕ)). slice_get xs at.0) (sym dropped) ∙ at.2,
  ),
)
