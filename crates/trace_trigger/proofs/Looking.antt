-- Lists that are looked through, element by element.
use Rattle.std.proofs.Common.{◌≡◌, ℕ, ◌+◌, ◌<◌, ◌≤◌, ◌==◌, Bool, true, false, ◌||◌, ◌&&◌, cond, List, [], ◌∷◌, length, get_or, drop, None, Some, refl, sym, ap, ◌∙◌, arith}
use Rattle.std.specs.List.{list_any, list_all, find, position, position_from, prefix_len}
use Rattle.std.proofs.lemmas.Bool.Decides.{nat_tests}
use Rattle.std.proofs.lemmas.Iterator.Adapters.{position_from-zero}
use Rattle.std.proofs.lemmas.List.{drop_more, drop_all}

module _ {X : Type 0} (p : X → Bool) (xs : List X) (i : ℕ) where
  left : (x : X) → i < length xs → x ≡ get_or xs i x → drop i xs ≡ x ∷ drop (i + 1) xs
  left x within at = drop_more xs i x within ∙ ap (λ y. y ∷ drop (i + 1) xs) (sym at)

  -- one that passes: it is here, it isn't, it is nowhere
  pub any_here : (x : X) → i < length xs → x ≡ get_or xs i x → p x ≡ true → list_any p xs ≡ list_any p (drop i xs) → true ≡ list_any p xs
  any_here x within at passes so_far = sym (so_far ∙ ap (list_any p) (left x within at) ∙ ap (λ b. b || list_any p (drop (i + 1) xs)) passes)

  pub any_later : (x : X) → i < length xs → x ≡ get_or xs i x → p x ≡ false → list_any p xs ≡ list_any p (drop i xs) → list_any p xs ≡ list_any p (drop (i + 1) xs)
  any_later x within at fails so_far = so_far ∙ ap (list_any p) (left x within at) ∙ ap (λ b. b || list_any p (drop (i + 1) xs)) fails

  pub any_none : length xs ≤ i → list_any p xs ≡ list_any p (drop i xs) → false ≡ list_any p xs
  any_none past so_far = sym (so_far ∙ ap (list_any p) (drop_all i xs past))

  -- the first that passes
  pub find_here : (x : X) → i < length xs → x ≡ get_or xs i x → p x ≡ true → find p xs ≡ find p (drop i xs) → Some x ≡ find p xs
  find_here x within at passes so_far =
      sym (so_far ∙ ap (find p) (left x within at) ∙ ap (λ b. cond b (Some x) (find p (drop (i + 1) xs))) passes)

  pub find_later : (x : X) → i < length xs → x ≡ get_or xs i x → p x ≡ false → find p xs ≡ find p (drop i xs) → find p xs ≡ find p (drop (i + 1) xs)
  find_later x within at fails so_far = so_far ∙ ap (find p) (left x within at) ∙ ap (λ b. cond b (Some x) (find p (drop (i + 1) xs))) fails

  pub find_none : length xs ≤ i → find p xs ≡ find p (drop i xs) → None ≡ find p xs
  find_none past so_far = sym (so_far ∙ ap (find p) (drop_all i xs past))

  -- its index
  pub place_here : (x : X) → i < length xs → x ≡ get_or xs i x → p x ≡ true → position p xs ≡ position_from p i (drop i xs) → Some i ≡ position p xs
  place_here x within at passes so_far =
      sym (so_far ∙ ap (position_from p i) (left x within at) ∙ ap (λ b. cond b (Some i) (position_from p (i + 1) (drop (i + 1) xs))) passes)

  pub place_later : (x : X) → i < length xs → x ≡ get_or xs i x → p x ≡ false → position p xs ≡ position_from p i (drop i xs)
      → position p xs ≡ position_from p (i + 1) (drop (i + 1) xs)
  place_later x within at fails so_far =
      so_far ∙ ap (position_from p i) (left x within at) ∙ ap (λ b. cond b (Some i) (position_from p (i + 1) (drop (i + 1) xs))) fails

  pub place_none : length xs ≤ i → position p xs ≡ position_from p i (drop i xs) → None ≡ position p xs
  place_none past so_far = sym (so_far ∙ ap (position_from p i) (drop_all i xs past))

pub place_start : {X : Type 0} (p : X → Bool) (xs : List X) → position p xs ≡ position_from p 0 xs
place_start p xs = position_from-zero p xs

-- all pass, if so many do as there are
pub all-run : {X : Type 0} (p : X → Bool) (xs : List X) → list_all p xs ≡ (prefix_len p xs == length xs)
all-run p [] = refl
all-run p (x ∷ xs) = by (p x) (all-run p xs)
  where
    by : (b : Bool) → list_all p xs ≡ (prefix_len p xs == length xs) → (b && list_all p xs) ≡ (cond b (1 + prefix_len p xs) 0 == length (x ∷ xs))
    by true rest = let more : (1 + prefix_len p xs == length (x ∷ xs)) ≡ (prefix_len p xs == length xs) = grind (arith, nat_tests) in rest ∙ sym more
    by false rest = let none : (0 == length (x ∷ xs)) ≡ false = grind (arith, nat_tests) in sym none
