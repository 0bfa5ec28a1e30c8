-- The offsets of the wrong parts of a text, and the least of offsets.
use Rattle.std.proofs.Common.{◌≡◌, ◌⊎◌, inl, inr, refl, ℕ, ◌+◌, ◌<◌, ◌≤◌, min, Bool, true, false, if◌then◌else◌, List, [], ◌∷◌, ◌++◌, length, flat_map, map, Option, Some, None, ap, sym, ◌∙◌, subst, arith, append-nil}
use Rattle.std.proofs.lemmas.Bool.{cases_lt}
use Rattle.std.proofs.lemmas.List.{append_assoc, length-append}
use Rattle.trace_trigger.specs.declared.piece.ListItem.{ListItem}
use Rattle.trace_trigger.specs.private.MistakeOffsets.{wrong_after, earlier, least}
use Rattle.trace_trigger.specs.HistFaultOffsets.{IsAt}
use Rattle.trace_trigger.proofs.CutLemmas.{located}
use Rattle.trace_trigger.proofs.ListLaws.{Member}

-- how many bytes parts have, each with the byte after it
abbrev pub size : ℕ → List (List ℕ) → ℕ
size byte parts = length (flat_map (λ (other : List ℕ). other ++ byte ∷ []) parts)

pub size_first : (byte : ℕ) (part : List ℕ) (parts : List (List ℕ)) → size byte (part ∷ parts) ≡ length part + 1 + size byte parts
size_first byte part parts =
    omega (arith, length-append (part ++ byte ∷ []) (flat_map (λ (other : List ℕ). other ++ byte ∷ []) parts), length-append part (byte ∷ []))

pub size_last : (byte : ℕ) (parts : List (List ℕ)) (part : List ℕ) → size byte (parts ++ part ∷ []) ≡ size byte parts + 1 + length part
size_last byte [] part = omega (arith, size_first byte part [])
size_last byte (first ∷ parts) part = omega (arith, size_first byte first (parts ++ part ∷ []), size_last byte parts part, size_first byte first parts)

pub located-push : (byte start : ℕ) (before : List (List ℕ)) (part : List ℕ) → located start (before ++ part ∷ []) ≡ located start before ++ record { at = start + size byte before; bytes = part } ∷ []
located-push byte start [] part = let here : start ≡ start + size byte [] = omega arith in ap (λ n. record { at = n; bytes = part } ∷ []) here
located-push byte start (first ∷ before) part =
    let there : start + 1 + length first + size byte before ≡ start + size byte (first ∷ before) = omega (arith, size_first byte first before) in
    ap (λ (pieces : List ListItem). record { at = start; bytes = first } ∷ pieces) (located-push byte (start + 1 + length first) before part)
    ∙ ap (λ n. record { at = start; bytes = first } ∷ (located (start + 1 + length first) before ++ record { at = n; bytes = part } ∷ [])) there

abbrev pub offsets : List ListItem → List ℕ
offsets pieces = map (λ (piece : ListItem). piece.at) pieces

module _ (byte start : ℕ) (wrong : List ListItem → ListItem → Bool) where
  pub record IsWrongThere (parts : List (List ℕ)) (offset : ℕ) : Type 0 where
    pub before : List (List ℕ)
    pub part : List ℕ
    pub is_at : IsAt byte start parts before part offset
    pub wrong_there : wrong (located start before) (record { at = offset; bytes = part }) ≡ true

  now : (before : List (List ℕ)) (part : List ℕ) (at : ℕ) → at ≡ start + size byte before → located start (before ++ part ∷ []) ≡ located start before ++ record { at = at; bytes = part } ∷ []
  now before part at e = located-push byte start before part ∙ ap (λ n. located start before ++ record { at = n; bytes = part } ∷ []) (sym e)

  next_offset : (before : List (List ℕ)) (part : List ℕ) (at : ℕ) → at ≡ start + size byte before → at + 1 + length part ≡ start + size byte (before ++ part ∷ [])
  next_offset before part at e = omega (arith, e, size_last byte before part)

  -- the offsets that are found after these parts
  abbrev after_these : List (List ℕ) → List (List ℕ) → ℕ → List ℕ
  after_these before rest at = offsets (wrong_after wrong (located start before) (located at rest))

  -- with one more part before them
  after_more : (before rest : List (List ℕ)) (part : List ℕ) (at : ℕ) → at ≡ start + size byte before
      → after_these (before ++ part ∷ []) rest (at + 1 + length part) ≡ offsets (wrong_after wrong (located start before ++ record { at = at; bytes = part } ∷ []) (located (at + 1 + length part) rest))
  after_more before rest part at e = ap (λ (pieces : List ListItem). offsets (wrong_after wrong pieces (located (at + 1 + length part) rest))) (now before part at e)

  step : (before rest : List (List ℕ)) (part : List ℕ) (at : ℕ) → at ≡ start + size byte before → (b : Bool) → wrong (located start before) (record { at = at; bytes = part }) ≡ b
      → after_these before (part ∷ rest) at ≡ (if b then at ∷ after_these (before ++ part ∷ []) rest (at + 1 + length part) else after_these (before ++ part ∷ []) rest (at + 1 + length part))
  step before rest part at e b f = by (wrong (located start before) (record { at = at; bytes = part })) b f
    where
      by : (c d : Bool) → c ≡ d
          → offsets (if c then record { at = at; bytes = part } ∷ wrong_after wrong (located start before ++ record { at = at; bytes = part } ∷ []) (located (at + 1 + length part) rest)
          else wrong_after wrong (located start before ++ record { at = at; bytes = part } ∷ []) (located (at + 1 + length part) rest))
          ≡ (if d then at ∷ after_these (before ++ part ∷ []) rest (at + 1 + length part) else after_these (before ++ part ∷ []) rest (at + 1 + length part))
      by true true g = ap (λ (ns : List ℕ). at ∷ ns) (sym (after_more before rest part at e))
      by false false g = sym (after_more before rest part at e)
      by true false g = absurd (cc)
      by false true g = absurd (cc)

  -- each offset that is found is one of a wrong part
  sound_after : (before rest : List (List ℕ)) (at offset : ℕ) → at ≡ start + size byte before → Member offset (after_these before rest at) → IsWrongThere (before ++ rest) offset
  sound_after before [] at offset e is = absurd is
  sound_after before (part ∷ rest) at offset e is =
      by (wrong (located start before) (record { at = at; bytes = part })) refl
      (λ is. subst (λ (parts : List (List ℕ)). IsWrongThere parts offset) (append_assoc before (part ∷ []) rest) (sound_after (before ++ part ∷ []) rest (at + 1 + length part) offset (next_offset before part at e) is))
    where
      here : wrong (located start before) (record { at = at; bytes = part }) ≡ true → offset ≡ at → IsWrongThere (before ++ part ∷ rest) offset
      here f same = record {
        before = before;
        part = part;
        is_at = record { after = rest; cut = refl; is_there = same ∙ e };
        wrong_there = ap (λ n. wrong (located start before) (record { at = n; bytes = part })) same ∙ f;
      }

      by : (b : Bool) → wrong (located start before) (record { at = at; bytes = part }) ≡ b → (Member offset (after_these (before ++ part ∷ []) rest (at + 1 + length part)) → IsWrongThere (before ++ part ∷ rest) offset)
          → IsWrongThere (before ++ part ∷ rest) offset
      by b f next = of b f (subst (Member offset) (step before rest part at e b f) is)
        where
          of : (b : Bool) → wrong (located start before) (record { at = at; bytes = part }) ≡ b
              → Member offset (if b then at ∷ after_these (before ++ part ∷ []) rest (at + 1 + length part) else after_these (before ++ part ∷ []) rest (at + 1 + length part)) → IsWrongThere (before ++ part ∷ rest) offset
          of true f (inl same) = here f same
          of true f (inr is) = next is
          of false f is = next is

  pub sound : (parts : List (List ℕ)) (offset : ℕ) → Member offset (offsets (wrong_after wrong [] (located start parts))) → IsWrongThere parts offset
  sound parts offset is = sound_after [] parts start offset (omega arith) is

  -- and each wrong part is found
  complete_after : (before : List (List ℕ)) (first : List (List ℕ)) (part : List ℕ) (after : List (List ℕ)) (at offset : ℕ) → at ≡ start + size byte before → offset ≡ start + size byte (before ++ first)
      → wrong (located start (before ++ first)) (record { at = offset; bytes = part }) ≡ true → Member offset (after_these before (first ++ part ∷ after) at)
  complete_after before [] part after at offset e f is =
      let whole : before ++ [] ≡ before = append-nil before in
      let same : offset ≡ at = omega (arith, f, e, ap (size byte) whole) in
      let wrong_here : wrong (located start before) (record { at = at; bytes = part }) ≡ true = (λ i. wrong (located start (sym whole i)) (record { at = sym same i; bytes = part })) ∙ is in
      subst (Member offset) (sym (step before after part at e true wrong_here)) (inl same)
  complete_after before (other ∷ first) part after at offset e f is =
      let moved : (before ++ other ∷ []) ++ first ≡ before ++ other ∷ first = append_assoc before (other ∷ []) first in
      let rest : Member offset (after_these (before ++ other ∷ []) (first ++ part ∷ after) (at + 1 + length other)) =
      complete_after (before ++ other ∷ []) first part after (at + 1 + length other) offset (next_offset before other at e) (f ∙ ap (λ (parts : List (List ℕ)). start + size byte parts) (sym moved))
      (ap (λ (parts : List (List ℕ)). wrong (located start parts) (record { at = offset; bytes = part })) moved ∙ is) in
      by (wrong (located start before) (record { at = at; bytes = other })) refl rest
    where
      by : (b : Bool) → wrong (located start before) (record { at = at; bytes = other }) ≡ b → Member offset (after_these (before ++ other ∷ []) (first ++ part ∷ after) (at + 1 + length other))
          → Member offset (after_these before ((other ∷ first) ++ part ∷ after) at)
      by true g rest = subst (Member offset) (sym (step before (first ++ part ∷ after) other at e true g)) (inr rest)
      by false g rest = subst (Member offset) (sym (step before (first ++ part ∷ after) other at e false g)) rest

  pub complete : (parts before : List (List ℕ)) (part : List ℕ) (offset : ℕ) → IsAt byte start parts before part offset → wrong (located start before) (record { at = offset; bytes = part }) ≡ true
      → Member offset (offsets (wrong_after wrong [] (located start parts)))
  complete parts before part offset is_at is =
      subst (λ (ps : List (List ℕ)). Member offset (offsets (wrong_after wrong [] (located start ps)))) (sym is_at.cut)
      (complete_after [] before part is_at.after start offset (omega arith) is_at.is_there is)

-- ---- members of lists joined

pub member_left : {X : Type 0} (x : X) (xs ys : List X) → Member x xs → Member x (xs ++ ys)
member_left x [] ys is = absurd is
member_left x (y ∷ xs) ys (inl same) = inl same
member_left x (y ∷ xs) ys (inr is) = inr (member_left x xs ys is)

pub member_right : {X : Type 0} (x : X) (xs ys : List X) → Member x ys → Member x (xs ++ ys)
member_right x [] ys is = is
member_right x (y ∷ xs) ys is = inr (member_right x xs ys is)

pub member_cases : {X : Type 0} (x : X) (xs ys : List X) → Member x (xs ++ ys) → Member x xs ⊎ Member x ys
member_cases x [] ys is = inr is
member_cases x (y ∷ xs) ys (inl same) = inl (inl same)
member_cases x (y ∷ xs) ys (inr is) = by (member_cases x xs ys is)
  where
    by : Member x xs ⊎ Member x ys → Member x (y ∷ xs) ⊎ Member x ys
    by (inl is) = inl (inr is)
    by (inr is) = inr is

-- ---- the least of offsets

pub record IsLeast (offsets : List ℕ) (at : ℕ) : Type 0 where
  pub member : Member at offsets
  pub below : (other : ℕ) → Member other offsets → at ≤ other

pub none_least : (offsets : List ℕ) (offset : ℕ) → least offsets ≡ None → Member offset offsets → ⊥
none_least [] offset e is = is
none_least (first ∷ offsets) offset e is = by (least offsets) e
  where
    by : (found : Option ℕ) → earlier (Some first) found ≡ None → ⊥
    by None f = cc
    by (Some n) f = cc

pub least_is : (offsets : List ℕ) (at : ℕ) → least offsets ≡ Some at → IsLeast offsets at
least_is [] at e = absurd (cc)
least_is (offset ∷ rest) at e = by (least rest) refl e (least_is rest)
  where
    by : (found : Option ℕ) → least rest ≡ found → earlier (Some offset) found ≡ Some at → ((n : ℕ) → least rest ≡ Some n → IsLeast rest n) → IsLeast (offset ∷ rest) at
    by None f g next =
        let same : offset ≡ at = cc in
        record { member = inl (sym same); below = below }
      where
        below : (other : ℕ) → Member other (offset ∷ rest) → at ≤ other
        below other (inl equal) = let same : offset ≡ at = cc in omega (arith, equal, same)
        below other (inr is) = absurd (none_least rest other f is)
    by (Some n) f g next = it (next n f) (cases_lt n offset)
      where
        same : min offset n ≡ at
        same = cc

        below : IsLeast rest n → (other : ℕ) → Member other (offset ∷ rest) → at ≤ other
        below is other (inl equal) = omega (arith, equal, same)
        below is other (inr there) = omega (arith, is.below other there, same)

        it : IsLeast rest n → (n < offset) ⊎ (offset ≤ n) → IsLeast (offset ∷ rest) at
        it is (inl less) = let here : n ≡ at = omega (arith, less, same) in record { member = inr (subst (λ m. Member m rest) here is.member); below = below is }
        it is (inr more) = let here : at ≡ offset = omega (arith, more, same) in record { member = inl here; below = below is }

pub is_least : (offsets : List ℕ) (at : ℕ) → IsLeast offsets at → least offsets ≡ Some at
is_least offsets at is = by (least offsets) refl
  where
    by : (found : Option ℕ) → least offsets ≡ found → least offsets ≡ Some at
    by None e = absurd (none_least offsets at e is.member)
    by (Some n) e =
        let it = least_is offsets n e in
        let same : n ≡ at = omega (arith, it.below at is.member, is.below n it.member) in
        e ∙ ap Some same
