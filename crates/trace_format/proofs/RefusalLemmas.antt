-- A text declares one definition or is refused at one offset.
use Rattle.std.proofs.Common.{◌≡◌, ℕ, ◌^◌, ◌<◌, ◌⊎◌, ◌↔◌, List, [], ◌∷◌, ◌++◌, length, Result, Ok, Err, refl, sym, ap, ◌∙◌, subst, inl, inr, append_assoc, append-nil}
use Rattle.std.proofs.lemmas.List.{map-append}
use Rattle.trace_format.specs.Words.{Spot, spots_of, words_of}
use Rattle.trace_format.specs.Definitions.{Definition, Declares, Begins, IsWrongAt, IsRefusedAt}
use Rattle.trace_format.specs.Reading.{definition_of}
use Rattle.trace_format.proofs.Verdicts.{IsVerdict, law, definition_is}

-- ---- two cuts of one list

-- a list begins with another one and an element behind it
record IsPart {X : Type 0} (front : List X) (x : X) (whole : List X) : Type 0 where
  back : List X
  cut : whole ≡ front ++ x ∷ back

-- of two cuts of a list at an element, both are at one offset or one is in front of the other
two_cuts : {X : Type 0} (front other : List X) (x y : X) (back after : List X) → front ++ x ∷ back ≡ other ++ y ∷ after → (x ≡ y) ⊎ (IsPart front x other ⊎ IsPart other y front)
two_cuts [] [] x y back after e = inl (cc)
two_cuts [] (b ∷ other) x y back after e = inr (inl (record { back = other; cut = (let same : b ≡ x = cc in ap (λ z. z ∷ other) same) }))
two_cuts (a ∷ front) [] x y back after e = inr (inr (record { back = front; cut = (let same : a ≡ y = cc in ap (λ z. z ∷ front) same) }))
two_cuts (a ∷ front) (b ∷ other) x y back after e =
    let heads : a ≡ b = cc in
    let tails : front ++ x ∷ back ≡ other ++ y ∷ after = cc in
    by heads (two_cuts front other x y back after tails)
  where
    by : a ≡ b → (x ≡ y) ⊎ (IsPart front x other ⊎ IsPart other y front) → (x ≡ y) ⊎ (IsPart (a ∷ front) x (b ∷ other) ⊎ IsPart (b ∷ other) y (a ∷ front))
    by heads (inl same) = inl same
    by heads (inr (inl part)) = inr (inl (record { back = part.back; cut = (λ i. sym heads i ∷ part.cut i) }))
    by heads (inr (inr part)) = inr (inr (record { back = part.back; cut = (λ i. heads i ∷ part.cut i) }))

-- ---- what begins a declaration

-- what begins a declaration, its own beginning begins it
begins_less : (words more : List (List ℕ)) → Begins (words ++ more) → Begins words
begins_less words more h = record { definition = h.definition; rest = more ++ h.rest; whole = subst (λ w. Declares w h.definition) (append_assoc words more h.rest) h.whole }

declared_begins : (words : List (List ℕ)) (definition : Definition) → Declares words definition → Begins words
declared_begins words definition h = record { definition = definition; rest = []; whole = subst (λ w. Declares w definition) (sym (append-nil words)) h }

part_begins : (front : List Spot) (spot : Spot) (whole : List Spot) → IsPart front spot whole → Begins (words_of whole) → Begins (words_of (front ++ spot ∷ []))
part_begins front spot whole part h =
    let words : words_of whole ≡ words_of (front ++ spot ∷ []) ++ words_of part.back =
    ap (λ spots. words_of spots) (part.cut ∙ sym (append_assoc front (spot ∷ []) part.back)) ∙ map-append (λ (s : Spot). s.word) (front ++ spot ∷ []) part.back in
    begins_less (words_of (front ++ spot ∷ [])) (words_of part.back) (subst Begins words h)

-- where a word is wrong, the words begin no declaration
wrong_begins_none : (spots : List Spot) (offset : ℕ) → IsWrongAt spots offset → Begins (words_of spots) → ⊥
wrong_begins_none spots offset w h = w.ends (part_begins w.front w.wrong spots (record { back = w.back; cut = w.cut }) h)

-- no two words are wrong
one_wrong : (spots : List Spot) (one other : ℕ) → IsWrongAt spots one → IsWrongAt spots other → one ≡ other
one_wrong spots one other w v = by (two_cuts w.front v.front w.wrong v.wrong w.back v.back (sym w.cut ∙ v.cut))
  where
    by : (w.wrong ≡ v.wrong) ⊎ (IsPart w.front w.wrong v.front ⊎ IsPart v.front v.wrong w.front) → one ≡ other
    by (inl same) = sym w.at ∙ ap (λ (s : Spot). s.at) same ∙ v.at
    by (inr (inl part)) = absurd (w.ends (part_begins w.front w.wrong v.front part v.begins))
    by (inr (inr part)) = absurd (v.ends (part_begins v.front v.wrong w.front part w.begins))

-- ---- the laws

pub never_both : (text : List ℕ) (definition : Definition) (offset : ℕ) → Declares (words_of (spots_of text)) definition → IsRefusedAt text offset → ⊥
never_both text definition offset h (inl w) = wrong_begins_none (spots_of text) offset w (declared_begins (words_of (spots_of text)) definition h)
never_both text definition offset h (inr early) = early.0.unfinished definition h

pub one_definition : (text : List ℕ) (one other : Definition) → Declares (words_of (spots_of text)) one → Declares (words_of (spots_of text)) other → one ≡ other
one_definition text one other h k = let same : Ok one ≡ Ok other = sym (definition_is text one h) ∙ definition_is text other k in cc

pub one_refusal : (text : List ℕ) (one other : ℕ) → IsRefusedAt text one → IsRefusedAt text other → one ≡ other
one_refusal text one other (inl w) (inl v) = one_wrong (spots_of text) one other w v
one_refusal text one other (inl w) (inr early) = absurd (wrong_begins_none (spots_of text) one w early.0.begins)
one_refusal text one other (inr early) (inl v) = absurd (wrong_begins_none (spots_of text) other v early.0.begins)
one_refusal text one other (inr early) (inr late) = early.1 ∙ sym late.1

module _ (text : List ℕ) (small : length text < 2 ^ 64) where
  pub definition_is_read : (definition : Definition) → (definition_of text ≡ Ok definition) ↔ Declares (words_of (spots_of text)) definition
  definition_is_read definition = (λ e. subst (IsVerdict (spots_of text) (length text)) e (law text small), λ h. definition_is text definition h)

  refused_read : (offset : ℕ) → IsRefusedAt text offset → definition_of text ≡ Err offset
  refused_read offset h = by (definition_of text) refl (law text small)
    where
      by : (r : Result Definition ℕ) → definition_of text ≡ r → IsVerdict (spots_of text) (length text) r → definition_of text ≡ Err offset
      by (Ok definition) e is = absurd (never_both text definition offset is h)
      by (Err at) e is = e ∙ ap Err (one_refusal text at offset is h)

  pub refusal_is_read : (offset : ℕ) → (definition_of text ≡ Err offset) ↔ IsRefusedAt text offset
  refusal_is_read offset = (λ e. subst (IsVerdict (spots_of text) (length text)) e (law text small), λ h. refused_read offset h)

  pub declared_or_refused : ((definition : Definition) × Declares (words_of (spots_of text)) definition) ⊎ ((offset : ℕ) × IsRefusedAt text offset)
  declared_or_refused = by (definition_of text) (law text small)
    where
      by : (r : Result Definition ℕ) → IsVerdict (spots_of text) (length text) r → ((definition : Definition) × Declares (words_of (spots_of text)) definition) ⊎ ((offset : ℕ) × IsRefusedAt text offset)
      by (Ok definition) is = inl (definition, is)
      by (Err offset) is = inr (offset, is)
