-- Behind a `[` without its `]`, no class is.
use Rattle.std.proofs.Common.{◌≡◌, ℕ, zero, suc, ◌+◌, ◌≤◌, ◌==◌, nat_lt, Bool, true, false, not, ◌&&◌, if◌then◌else◌, List, [], ◌∷◌, length, take, drop, refl, sym, ap, ◌∙◌, subst, one-add, arith, drop-drop, eqb→eq}
use Rattle.std.specs.List.{prefix_len}
use Rattle.std.specs.Bool.{passes}
use Rattle.std.proofs.lemmas.Bool.{cond-true, cond-false, cond_both, and_parts, le-ltb, ltb-false}
use Rattle.trace_filter.specs.declared.glob.ReadElement as pieces
use Rattle.trace_lex.specs.Prefixes.{is_not}
use Rattle.trace_filter.specs.Globs.{OneByte, itself, class_from, class_piece, part_of}
use Rattle.trace_filter.specs.private.SeenGlobs.{IsPartPiece}

-- no byte is a `]`
abbrev NoBracket : List ℕ → Type 0
NoBracket [] = Unit {0}
NoBracket (b ∷ bs) = ((b == 93) ≡ false) × NoBracket bs

no_bracket : (bs : List ℕ) → length bs ≤ prefix_len (is_not 93) bs → NoBracket bs
no_bracket [] h = tt
no_bracket (b ∷ bs) h = by (b == 93) h (no_bracket bs)
  where
    by : (e : Bool) → length (b ∷ bs) ≤ (if not e then 1 + prefix_len (is_not 93) bs else 0) → (length bs ≤ prefix_len (is_not 93) bs → NoBracket bs) → (e ≡ false) × NoBracket bs
    by true h rest = absurd (omega (arith, h))
    by false h rest = (refl, rest (omega (arith, h)))

none_before : (bs : List ℕ) → NoBracket bs → prefix_len (is_not 93) bs ≡ length bs
none_before [] h = refl
none_before (b ∷ bs) h = cond-true (not (b == 93)) _ _ (ap not h.0) ∙ ap (λ n. 1 + n) (none_before bs h.1) ∙ one-add (length bs)

none_behind : (n : ℕ) (bs : List ℕ) → NoBracket bs → NoBracket (drop n bs)
none_behind zero bs h = h
none_behind (suc n) [] h = tt
none_behind (suc n) (b ∷ bs) h = none_behind n bs h.1

from_itself : (negated : Bool) (before b : ℕ) (bs : List ℕ) → NoBracket bs → class_from negated before (b ∷ bs) ≡ itself 91
from_itself negated before b bs h =
    let whole = none_before bs h in
    let enough : length bs ≤ prefix_len (is_not 93) bs = omega (arith, whole) in
    cond-false (nat_lt (prefix_len (is_not 93) bs) (length bs)) _ _ (le-ltb (prefix_len (is_not 93) bs) (length bs) enough)

-- the bytes behind a `[` whose first byte alone may be a `]`
first_itself : (b : ℕ) (bs : List ℕ) → NoBracket bs → class_piece (b ∷ bs) ≡ itself 91
first_itself b bs h = cond_both (b == 33) (class_from true 1 bs) (class_from false 0 (b ∷ bs)) (λ p. p ≡ itself 91) (λ _. negated bs h) (λ _. from_itself false 0 b bs h)
  where
    negated : (bs : List ℕ) → NoBracket bs → class_from true 1 bs ≡ itself 91
    negated [] h = refl
    negated (c ∷ cs) h = from_itself true 1 c cs h.1

all_itself : (bs : List ℕ) → NoBracket bs → class_piece bs ≡ itself 91
all_itself [] h = refl
all_itself (b ∷ bs) h = first_itself b bs h.1

from_unclosed : (negated : Bool) (before b : ℕ) (bs : List ℕ) → (class_from negated before (b ∷ bs)).more ≡ 0 → NoBracket bs
from_unclosed negated before b bs h = by (nat_lt (prefix_len (is_not 93) bs) (length bs)) refl h
  where
    by : (t : Bool) → nat_lt (prefix_len (is_not 93) bs) (length bs) ≡ t
        → (if t then record { part = OneByte (record { negated = negated; members = b ∷ take (prefix_len (is_not 93) bs) bs }); more = before + (prefix_len (is_not 93) bs + 2) } else itself 91).more ≡ 0 → NoBracket bs
    by true e h = absurd (omega (arith, h))
    by false e h = no_bracket bs (ltb-false (prefix_len (is_not 93) bs) (length bs) e)

unclosed : (bs : List ℕ) → (class_piece bs).more ≡ 0 → (n : ℕ) → class_piece (drop n bs) ≡ itself 91
unclosed [] h zero = refl
unclosed [] h (suc n) = refl
unclosed (b ∷ bs) h n = by (b == 33) refl n h
  where
    later : (bs : List ℕ) → (class_from true 1 bs).more ≡ 0 → (n : ℕ) → class_piece (drop n bs) ≡ itself 91
    later [] h zero = refl
    later [] h (suc n) = refl
    later (c ∷ cs) h zero = first_itself c cs (from_unclosed true 1 c cs h)
    later (c ∷ cs) h (suc n) = all_itself (drop n cs) (none_behind n cs (from_unclosed true 1 c cs h))

    at_once : (bs : List ℕ) → (class_from true 1 bs).more ≡ 0 → class_from true 1 bs ≡ itself 91
    at_once [] h = refl
    at_once (c ∷ cs) h = from_itself true 1 c cs (from_unclosed true 1 c cs h)

    by : (t : Bool) → (b == 33) ≡ t → (n : ℕ) → (if t then class_from true 1 bs else class_from false 0 (b ∷ bs)).more ≡ 0 → class_piece (drop n (b ∷ bs)) ≡ itself 91
    by true e zero h = cond-true (b == 33) _ _ e ∙ at_once bs h
    by true e (suc n) h = later bs h n
    by false e zero h = first_itself b bs (from_unclosed false 0 b bs h)
    by false e (suc n) h = all_itself (drop n bs) (none_behind n bs (from_unclosed false 0 b bs h))

module _ (rest others : List ℕ) (first : ℕ) (found : pieces.ReadElement) (cut : rest ≡ first ∷ others) (is : IsPartPiece (part_of first others) found (length others)) where
  same_rest : (n : ℕ) → drop (suc (found.more + n)) rest ≡ drop n (drop found.more others)
  same_rest n = ap (drop (suc (found.more + n))) cut ∙ sym (drop-drop n found.more others)

  pub still_closed : (may_close now : Bool) → (may_close ≡ false → (n : ℕ) → class_piece (drop n rest) ≡ itself 91) → now ≡ (may_close && not (first == 91 && found.more == 0)) → now ≡ false
      → (n : ℕ) → class_piece (drop n (drop found.more others)) ≡ itself 91
  unfolding part_of
  still_closed false now before e f n = ap class_piece (sym (same_rest n)) ∙ before refl (suc (found.more + n))
  still_closed true now before e f n =
      let both = and_parts (first == 91) (found.more == 0) (not_not (first == 91 && found.more == 0) (sym e ∙ f)) in
      let head : first ≡ 91 = eqb→eq first 91 (passes (first == 91) both.0) in
      let none : found.more ≡ 0 = eqb→eq found.more 0 (passes (found.more == 0) both.1) in
      let more : (class_piece others).more ≡ 0 = subst (λ b. (part_of b others).more ≡ 0) head (sym is.more ∙ none) in
      ap (λ k. class_piece (drop n (drop k others))) none ∙ unclosed others more n
    where
      not_not : (b : Bool) → not b ≡ false → b ≡ true
      not_not true h = refl
      not_not false h = absurd (cc)
