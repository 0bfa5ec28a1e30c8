-- Lists that are filled from others, element by element, into room that is there.
use Rattle.std.proofs.Common.{◌≡◌, ℕ, ◌+◌, ◌<◌, ◌≤◌, List, [], ◌∷◌, ◌++◌, length, get_or, map, take, sym, ap, ◌∙◌}
use Rattle.std.proofs.lemmas.List.{map_more, take_all}

module _ {X Y : Type 0} (of : X → Y) (xs : List X) where
  -- what is filled in comes of the first so many elements: one more, and all
  pub filled_more : (i : ℕ) (x : X) (y : Y) (found more : List Y) → i < length xs → x ≡ get_or xs i x → y ≡ of x → more ≡ found ++ y ∷ []
      → found ≡ map of (take i xs) → more ≡ map of (take (i + 1) xs)
  filled_more i x y found more within at same grown so_far =
      grown ∙ ap (λ ys. ys ++ y ∷ []) so_far ∙ ap (λ z. map of (take i xs) ++ z ∷ []) (same ∙ ap of at) ∙ sym (map_more of xs i x within)

  pub filled_all : (i : ℕ) (found : List Y) → length xs ≤ i → found ≡ map of (take i xs) → found ≡ map of xs
  filled_all i found past so_far = so_far ∙ ap (map of) (take_all i xs past)
