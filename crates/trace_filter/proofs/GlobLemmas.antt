-- The marks say what a glob matches.
use Rattle.std.proofs.Common.{◌≡◌, ◌⊎◌, ◌↔◌, ℕ, Bool, true, false, ◌||◌, ◌&&◌, List, [], ◌∷◌, ◌++◌, length, map, refl, sym, ap, subst, inl, inr}
use Rattle.std.proofs.lemmas.Bool.{and_parts, and_from}
use Rattle.trace_filter.specs.Globs.{Class, is_in_class, Element, AnyBytes, OneByte, Matches}
use Rattle.trace_filter.specs.Marks.{spread, shift, advance, advance_all, mark_at, first_row, is_match}

-- some marked front of the text has behind it what the parts match
abbrev Reaches : List Element → List Bool → List ℕ → Type 0
Reaches parts [] text = ⊥
Reaches parts (b ∷ row) [] = (b ≡ true) × Matches parts []
Reaches parts (b ∷ row) (t ∷ text) = ((b ≡ true) × Matches parts (t ∷ text)) ⊎ Reaches parts row text

-- a row has a mark for each front
abbrev Fits : List Bool → List ℕ → Type 0
Fits [] text = ⊥
Fits (b ∷ row) [] = row ≡ []
Fits (b ∷ row) (t ∷ text) = Fits row text

-- `*` before parts: they match the text, or `*` before them what is behind its first byte
any_here : (parts : List Element) (text : List ℕ) → Matches parts text → Matches (AnyBytes ∷ parts) text
any_here parts text m = ([], text, refl, m)

any_later : (parts : List Element) (t : ℕ) (text : List ℕ) → Matches (AnyBytes ∷ parts) text → Matches (AnyBytes ∷ parts) (t ∷ text)
any_later parts t text (front, rest, cut, m) = (t ∷ front, rest, ap (λ bytes. t ∷ bytes) cut, m)

any_end : (parts : List Element) → Matches (AnyBytes ∷ parts) [] → Matches parts []
any_end parts ([], rest, cut, m) = subst (Matches parts) (sym cut) m
any_end parts (f ∷ front, rest, cut, m) = absurd (cc)

any_cases : (parts : List Element) (t : ℕ) (text : List ℕ) → Matches (AnyBytes ∷ parts) (t ∷ text) → Matches parts (t ∷ text) ⊎ Matches (AnyBytes ∷ parts) text
any_cases parts t text ([], rest, cut, m) = inl (subst (Matches parts) (sym cut) m)
any_cases parts t text (f ∷ front, rest, cut, m) =
    let tail : text ≡ front ++ rest = cc in
    inr (front, rest, tail, m)

or_cases : (a b : Bool) → (a || b) ≡ true → (a ≡ true) ⊎ (b ≡ true)
or_cases true b h = inl refl
or_cases false b h = inr h

or_left : (a b : Bool) → a ≡ true → (a || b) ≡ true
or_left true b h = refl
or_left false b h = absurd (cc)

or_right : (a b : Bool) → b ≡ true → (a || b) ≡ true
or_right true b h = refl
or_right false b h = h

-- ---- `*`

spread_to : (parts : List Element) (seen : Bool) (row : List Bool) (text : List ℕ) → Fits row text
    → ((seen ≡ true) × Matches (AnyBytes ∷ parts) text) ⊎ Reaches (AnyBytes ∷ parts) row text → Reaches parts (spread seen row) text
spread_to parts seen [] text fits h = fits
spread_to parts seen (b ∷ row) [] fits (inl h) = (or_left seen b h.0, any_end parts h.1)
spread_to parts seen (b ∷ row) [] fits (inr h) = (or_right seen b h.0, any_end parts h.1)
spread_to parts seen (b ∷ row) (t ∷ text) fits (inl h) =
    elim (any_cases parts t text h.1) [
      | inl m ↦ inl (or_left seen b h.0, m)
      | inr m ↦ inr (spread_to parts (seen || b) row text fits (inl (or_left seen b h.0, m)))
    ]
spread_to parts seen (b ∷ row) (t ∷ text) fits (inr (inl h)) =
    elim (any_cases parts t text h.1) [
      | inl m ↦ inl (or_right seen b h.0, m)
      | inr m ↦ inr (spread_to parts (seen || b) row text fits (inl (or_right seen b h.0, m)))
    ]
spread_to parts seen (b ∷ row) (t ∷ text) fits (inr (inr h)) = inr (spread_to parts (seen || b) row text fits (inr h))

spread_from : (parts : List Element) (seen : Bool) (row : List Bool) (text : List ℕ) → Reaches parts (spread seen row) text
    → ((seen ≡ true) × Matches (AnyBytes ∷ parts) text) ⊎ Reaches (AnyBytes ∷ parts) row text
spread_from parts seen [] text h = absurd h
spread_from parts seen (b ∷ row) [] h =
    elim (or_cases seen b h.0) [
      | inl s ↦ inl (s, any_here parts [] h.1)
      | inr s ↦ inr (s, any_here parts [] h.1)
    ]
spread_from parts seen (b ∷ row) (t ∷ text) (inl h) =
    elim (or_cases seen b h.0) [
      | inl s ↦ inl (s, any_here parts (t ∷ text) h.1)
      | inr s ↦ inr (inl (s, any_here parts (t ∷ text) h.1))
    ]
spread_from parts seen (b ∷ row) (t ∷ text) (inr h) = by (spread_from parts (seen || b) row text h)
  where
    by : (((seen || b) ≡ true) × Matches (AnyBytes ∷ parts) text) ⊎ Reaches (AnyBytes ∷ parts) row text → ((seen ≡ true) × Matches (AnyBytes ∷ parts) (t ∷ text)) ⊎ (((b ≡ true) × Matches (AnyBytes ∷ parts) (t ∷ text)) ⊎ Reaches (AnyBytes ∷ parts) row text)
    by (inl s) = elim (or_cases seen b s.0) [ inl e ↦ inl (e, any_later parts t text s.1) | inr e ↦ inr (inl (e, any_later parts t text s.1)) ]
    by (inr s) = inr (inr s)

-- ---- a class

module _ (parts : List Element) (class : Class) where
  one_cases : (t : ℕ) (text : List ℕ) → Matches (OneByte class ∷ parts) (t ∷ text) → (is_in_class class t ≡ true) × Matches parts text
  one_cases t text (first, rest, cut, found, m) =
      let head : first ≡ t = cc in
      let tail : rest ≡ text = cc in
      (subst (λ b. is_in_class class b ≡ true) head found, subst (Matches parts) tail m)

  one_none : Matches (OneByte class ∷ parts) [] → ⊥
  one_none (first, rest, cut, found, m) = cc

  shift_to : (carry : Bool) (row : List Bool) (text : List ℕ) → Fits row text
      → ((carry ≡ true) × Matches parts text) ⊎ Reaches (OneByte class ∷ parts) row text → Reaches parts (shift class carry row text) text
  shift_to carry [] text fits h = fits
  shift_to carry (b ∷ row) [] fits (inl h) = h
  shift_to carry (b ∷ row) [] fits (inr h) = absurd (one_none h.1)
  shift_to carry (b ∷ row) (t ∷ text) fits (inl h) = inl h
  shift_to carry (b ∷ row) (t ∷ text) fits (inr (inl h)) =
      let m = one_cases t text h.1 in
      inr (shift_to (b && is_in_class class t) row text fits (inl (and_from b (is_in_class class t) h.0 m.0, m.1)))
  shift_to carry (b ∷ row) (t ∷ text) fits (inr (inr h)) = inr (shift_to (b && is_in_class class t) row text fits (inr h))

  shift_from : (carry : Bool) (row : List Bool) (text : List ℕ) → Reaches parts (shift class carry row text) text
      → ((carry ≡ true) × Matches parts text) ⊎ Reaches (OneByte class ∷ parts) row text
  shift_from carry [] text h = absurd h
  shift_from carry (b ∷ row) [] h = inl h
  shift_from carry (b ∷ row) (t ∷ text) (inl h) = inl h
  shift_from carry (b ∷ row) (t ∷ text) (inr h) = by (shift_from (b && is_in_class class t) row text h)
    where
      by : (((b && is_in_class class t) ≡ true) × Matches parts text) ⊎ Reaches (OneByte class ∷ parts) row text → ((carry ≡ true) × Matches parts (t ∷ text)) ⊎ (((b ≡ true) × Matches (OneByte class ∷ parts) (t ∷ text)) ⊎ Reaches (OneByte class ∷ parts) row text)
      by (inl s) =
          let both = and_parts b (is_in_class class t) s.0 in
          inr (inl (both.0, (t, text, refl, both.1, s.1)))
      by (inr s) = inr (inr s)

-- ---- all parts

spread_fits : (seen : Bool) (row : List Bool) (text : List ℕ) → Fits row text → Fits (spread seen row) text
spread_fits seen [] text fits = fits
spread_fits seen (b ∷ row) [] fits = ap (spread (seen || b)) fits
spread_fits seen (b ∷ row) (t ∷ text) fits = spread_fits (seen || b) row text fits

shift_fits : (class : Class) (carry : Bool) (row : List Bool) (text : List ℕ) → Fits row text → Fits (shift class carry row text) text
shift_fits class carry [] text fits = fits
shift_fits class carry (b ∷ row) [] fits = refl
shift_fits class carry (b ∷ row) (t ∷ text) fits = shift_fits class (b && is_in_class class t) row text fits

not_false : false ≡ true → ⊥
not_false h = cc

advance_reaches : (part : Element) (parts : List Element) (row : List Bool) (text : List ℕ) → Fits row text → Reaches (part ∷ parts) row text ↔ Reaches parts (advance part row text) text
advance_reaches AnyBytes parts row text fits =
    ((λ h. spread_to parts false row text fits (inr h)), (λ h. elim (spread_from parts false row text h) [ inl s ↦ absurd (not_false s.0) | inr s ↦ s ]))
advance_reaches (OneByte class) parts row text fits =
    ((λ h. shift_to parts class false row text fits (inr h)), (λ h. elim (shift_from parts class false row text h) [ inl s ↦ absurd (not_false s.0) | inr s ↦ s ]))

advance_fits : (part : Element) (row : List Bool) (text : List ℕ) → Fits row text → Fits (advance part row text) text
advance_fits AnyBytes row text fits = spread_fits false row text fits
advance_fits (OneByte class) row text fits = shift_fits class false row text fits

nothing_left : (row : List Bool) (text : List ℕ) → Fits row text → Reaches [] row text ↔ (mark_at (length text) row ≡ true)
nothing_left [] text fits = absurd fits
nothing_left (b ∷ row) [] fits = ((λ h. h.0), (λ h. (h, refl)))
nothing_left (b ∷ row) (t ∷ text) fits =
    ((λ h. elim h [ inl s ↦ absurd (cons_nil s.1) | inr s ↦ (nothing_left row text fits).0 s ]), (λ h. inr ((nothing_left row text fits).1 h)))
  where
    cons_nil : (t ∷ text) ≡ [] → ⊥
    cons_nil h = cc

all_reach : (parts : List Element) (row : List Bool) (text : List ℕ) → Fits row text → Reaches parts row text ↔ (mark_at (length text) (advance_all parts row text) ≡ true)
all_reach [] row text fits = nothing_left row text fits
all_reach (part ∷ parts) row text fits =
    let one = advance_reaches part parts row text fits in
    let others = all_reach parts (advance part row text) text (advance_fits part row text fits) in
    ((λ h. others.0 (one.0 h)), (λ h. one.1 (others.1 h)))

first_fits : (b : Bool) (text : List ℕ) → Fits (b ∷ map (λ c. false) text) text
first_fits b [] = refl
first_fits b (t ∷ text) = first_fits false text

no_marks : (parts : List Element) (text : List ℕ) → Reaches parts (false ∷ map (λ b. false) text) text → ⊥
no_marks parts [] h = not_false h.0
no_marks parts (t ∷ text) (inl h) = not_false h.0
no_marks parts (t ∷ text) (inr h) = no_marks parts text h

first_reaches : (parts : List Element) (text : List ℕ) → Matches parts text ↔ Reaches parts (first_row text) text
first_reaches parts [] = ((λ m. (refl, m)), (λ h. h.1))
first_reaches parts (t ∷ text) = ((λ m. inl (refl, m)), (λ h. elim h [ inl s ↦ s.1 | inr s ↦ absurd (no_marks parts text s) ]))

-- the last mark tells whether the parts match the text
pub is_match-Decides : (parts : List Element) (text : List ℕ) → (is_match parts text ≡ true) ↔ Matches parts text
is_match-Decides parts text =
    let first = first_reaches parts text in
    let all = all_reach parts (first_row text) text (first_fits true text) in
    ((λ h. first.1 (all.1 h)), (λ m. all.0 (first.0 m)))
