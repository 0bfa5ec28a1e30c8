-- Globs as the program matches them: a row of marks, one for each front of the text, whether the parts so far match it. That the last mark
-- says whether the parts match the text follows from the law `filters_hold_as_their_trees`.
use Rattle.std.specs.Prelude.{ℕ, zero, suc, Bool, true, false, ◌||◌, ◌&&◌, List, [], ◌∷◌, length, map}
use Rattle.trace_filter.specs.Globs.{Class, is_in_class, Element, AnyBytes, OneByte}

abbrev pub spread : Bool → List Bool → List Bool
spread seen [] = []
spread seen (b ∷ row) = (seen || b) ∷ spread (seen || b) row

abbrev pub shift : Class → Bool → List Bool → List ℕ → List Bool
shift class carry [] text = []
shift class carry (b ∷ row) [] = carry ∷ []
shift class carry (b ∷ row) (t ∷ text) = carry ∷ shift class (b && is_in_class class t) row text

abbrev pub advance : Element → List Bool → List ℕ → List Bool
advance AnyBytes row text = spread false row
advance (OneByte class) row text = shift class false row text

abbrev pub advance_all : List Element → List Bool → List ℕ → List Bool
advance_all [] row text = row
advance_all (part ∷ parts) row text = advance_all parts (advance part row text) text

-- the mark of the whole text
abbrev pub mark_at : ℕ → List Bool → Bool
mark_at n [] = false
mark_at zero (b ∷ row) = b
mark_at (suc n) (b ∷ row) = mark_at n row

abbrev pub first_row : List ℕ → List Bool
first_row text = true ∷ map (λ b. false) text

abbrev pub is_match : List Element → List ℕ → Bool
is_match parts text = mark_at (length text) (advance_all parts (first_row text) text)
