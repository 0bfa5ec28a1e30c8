-- The first part of a string, and the rest.
use Rattle.std.proofs.Common.{◌≡◌, refl, ℕ, zero, suc, ◌+◌, ◌<◌, Bool, true, false, not, ◌==◌, cond, if◌then◌else◌, List, [], ◌∷◌, ◌++◌, length, take, drop, ap, sym, ◌∙◌, arith}
use Rattle.std.specs.List.{prefix_len}
use Rattle.std.proofs.lemmas.List.{append_assoc}
use Rattle.trace_lex.specs.Prefixes.{is_not}
use Rattle.trace_trigger.specs.declared.piece.ListItem.{ListItem}
use Rattle.trace_trigger.specs.HistPieces.{lengthened, pieces_of}

module _ (separator : ℕ) where
  -- without a separator there is one part
  pub pieces-last : (at : ℕ) (bytes : List ℕ) → prefix_len (is_not separator) bytes ≡ length bytes
      → pieces_of separator at bytes ≡ record { at = at; bytes = take (length bytes) bytes } ∷ []
  pieces-last at [] h = refl
  pieces-last at (b ∷ bs) h = by (b == separator) h (λ e. pieces-last (at + 1) bs e)
    where
      by : (same : Bool) → cond (not same) (1 + prefix_len (is_not separator) bs) 0 ≡ suc (length bs)
          → (prefix_len (is_not separator) bs ≡ length bs → pieces_of separator (at + 1) bs ≡ record { at = at + 1; bytes = take (length bs) bs } ∷ [])
          → (if same then record { at = at; bytes = [] } ∷ pieces_of separator (at + 1) bs else lengthened at b (pieces_of separator (at + 1) bs))
          ≡ record { at = at; bytes = b ∷ take (length bs) bs } ∷ []
      by true g next = absurd (omega (arith, g))
      by false g next = ap (lengthened at b) (next (omega (arith, g)))

  -- up to the first separator it is the first part
  pub pieces-first : (at n : ℕ) (bytes : List ℕ) → prefix_len (is_not separator) bytes ≡ n → n < length bytes
      → pieces_of separator at bytes ≡ record { at = at; bytes = take n bytes } ∷ pieces_of separator (at + 1 + n) (drop (suc n) bytes)
  pieces-first at n [] h k = absurd (omega (arith, k))
  pieces-first at zero (b ∷ bs) h k = by (b == separator) h
    where
      by : (same : Bool) → cond (not same) (1 + prefix_len (is_not separator) bs) 0 ≡ 0
          → (if same then record { at = at; bytes = [] } ∷ pieces_of separator (at + 1) bs else lengthened at b (pieces_of separator (at + 1) bs))
          ≡ record { at = at; bytes = [] } ∷ pieces_of separator (at + 1 + 0) bs
      by true g = let e : at + 1 ≡ at + 1 + 0 = omega arith in ap (λ m. record { at = at; bytes = [] } ∷ pieces_of separator m bs) e
      by false g = absurd (omega (arith, g))
  pieces-first at (suc n) (b ∷ bs) h k = by (b == separator) h (λ e. pieces-first (at + 1) n bs e (omega (arith, k)))
    where
      by : (same : Bool) → cond (not same) (1 + prefix_len (is_not separator) bs) 0 ≡ suc n
          → (prefix_len (is_not separator) bs ≡ n
          → pieces_of separator (at + 1) bs ≡ record { at = at + 1; bytes = take n bs } ∷ pieces_of separator (at + 1 + 1 + n) (drop (suc n) bs))
          → (if same then record { at = at; bytes = [] } ∷ pieces_of separator (at + 1) bs else lengthened at b (pieces_of separator (at + 1) bs))
          ≡ record { at = at; bytes = b ∷ take n bs } ∷ pieces_of separator (at + 1 + suc n) (drop (suc n) bs)
      by true g next = absurd (omega (arith, g))
      by false g next =
          let e : at + 1 + 1 + n ≡ at + 1 + suc n = omega arith in
          ap (lengthened at b) (next (omega (arith, g))) ∙ ap (λ m. record { at = at; bytes = b ∷ take n bs } ∷ pieces_of separator m (drop (suc n) bs)) e

  -- the parts found are all, when the rest is one part
  pub pieces-ended : (found now : List ListItem) (at n : ℕ) (rest : List ℕ) (all : List ListItem)
      → found ++ pieces_of separator at rest ≡ all → prefix_len (is_not separator) rest ≡ n → n ≡ length rest
      → now ≡ found ++ record { at = at; bytes = take n rest } ∷ [] → now ≡ all
  pieces-ended found now at n rest all h e k g =
      g ∙ ap (λ m. found ++ record { at = at; bytes = take m rest } ∷ []) k ∙ sym (ap (λ x. found ++ x) (pieces-last at rest (e ∙ k))) ∙ h

  -- and otherwise one more is found
  pub pieces-more : (found now : List ListItem) (at n : ℕ) (rest : List ℕ) (all : List ListItem)
      → found ++ pieces_of separator at rest ≡ all → prefix_len (is_not separator) rest ≡ n → n < length rest
      → now ≡ found ++ record { at = at; bytes = take n rest } ∷ [] → now ++ pieces_of separator (at + 1 + n) (drop (suc n) rest) ≡ all
  pieces-more found now at n rest all h e k g =
      ap (λ x. x ++ pieces_of separator (at + 1 + n) (drop (suc n) rest)) g
      ∙ append_assoc found (record { at = at; bytes = take n rest } ∷ []) (pieces_of separator (at + 1 + n) (drop (suc n) rest))
      ∙ sym (ap (λ x. found ++ x) (pieces-first at n rest e k)) ∙ h
