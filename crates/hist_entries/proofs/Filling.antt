-- Lists that are filled from others, element by element, into room that is there.
use Rattle.std.proofs.Common.{◌≡◌, ℕ, ◌+◌, ◌<◌, ◌≤◌, List, [], ◌∷◌, ◌++◌, length, get_or, map, take, sym, ap, ◌∙◌}
use Rattle.std.proofs.lemmas.List.{map-append, map_more, take_all}

module _ {X Y D : Type 0} (of : X → D) (is : Y → D) (xs : List X) where
  -- what is filled in stands for the first so many elements: one more, and all
  pub filled_more : (i : ℕ) (x : X) (y : Y) (found more : List Y) → i < length xs → x ≡ get_or xs i x → is y ≡ of x → more ≡ found ++ y ∷ []
      → map is found ≡ map of (take i xs) → map is more ≡ map of (take (i + 1) xs)
  filled_more i x y found more within at same grown so_far =
      ap (map is) grown ∙ map-append is found (y ∷ []) ∙ ap (λ ds. ds ++ is y ∷ []) so_far
      ∙ ap (λ d. map of (take i xs) ++ d ∷ []) (same ∙ ap of at) ∙ sym (map_more of xs i x within)

  pub filled_all : (i : ℕ) (found : List Y) → length xs ≤ i → map is found ≡ map of (take i xs) → map is found ≡ map of xs
  filled_all i found past so_far = so_far ∙ ap (map of) (take_all i xs past)
