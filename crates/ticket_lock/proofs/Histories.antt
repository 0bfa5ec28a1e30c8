-- Lists of entries that go on from one another.
use Rattle.std.proofs.Common.{◌≡◌, ℕ, ◌<◌, ◌≤◌, Bool, true, false, cond, List, [], ◌∷◌, ◌++◌, length, sym, refl, ap, ◌∙◌, arith, append_assoc, length-append}
use Rattle.std.specs.Prelude.{filter, All, AllPairs, nat_le, nat_lt}
use Rattle.std.proofs.lemmas.Bool.{ltb-true, ltb-false, leb-true, and_parts, false≢true}
use Rattle.std.proofs.lemmas.Bool.Decides.{nat_tests}
use Rattle.std.proofs.lemmas.List.{append-nil, get_or_append_left}
use Rattle.std.proofs.lemmas.List.Elements.{filter-append}
use Rattle.ticket_lock.specs.Entries.{is_under, entries_under, Continues, longer_of}

module _ {E : Type 0} where
  -- two beginnings of one list: the shorter begins the longer
  pub between : (xs ys r s : List E) → xs ++ r ≡ ys ++ s → length xs ≤ length ys → (m : List E) × (ys ≡ xs ++ m) × (r ≡ m ++ s)
  between [] ys r s e le = (ys, refl, e)
  between (x ∷ xs) [] r s e le = absurd (omega arith)
  between (x ∷ xs) (y ∷ ys) r s e le =
      let tails : xs ++ r ≡ ys ++ s = cc in
      let heads : x ≡ y = cc in
      let (m, whole, behind) = between xs ys r s tails (omega arith) in
      (m, (λ i. sym heads i ∷ whole i), behind)

  -- of a part with nothing in it, each part has nothing in it
  pub none_left : (xs ys : List E) → xs ++ ys ≡ [] → xs ≡ []
  none_left [] ys e = refl
  none_left (x ∷ xs) ys e = cc

  pub none_right : (xs ys : List E) → xs ++ ys ≡ [] → ys ≡ []
  none_right [] ys e = e
  none_right (x ∷ xs) ys e = cc

  -- where no element passes a test, none passes a narrower one
  pub filter_narrower : (p q : E → Bool) → ((e : E) → q e ≡ true → p e ≡ true) → (xs : List E) → filter p xs ≡ [] → filter q xs ≡ []
  filter_narrower p q so [] none = refl
  filter_narrower p q so (x ∷ xs) none = go (p x) (q x) refl refl none (filter_narrower p q so xs)
    where
      go : (a b : Bool) → p x ≡ a → q x ≡ b → cond a (x ∷ filter p xs) (filter p xs) ≡ [] → (filter p xs ≡ [] → filter q xs ≡ []) → cond b (x ∷ filter q xs) (filter q xs) ≡ []
      go true b is is' n more = cc
      go false true is is' n more = absurd (false≢true (sym is ∙ so x is'))
      go false false is is' n more = more n

  -- where no element passes either of two tests, none passes their union
  pub filter_union : (p q r : E → Bool) → ((e : E) → p e ≡ false → q e ≡ false → r e ≡ false) → (xs : List E) → filter p xs ≡ [] → filter q xs ≡ [] → filter r xs ≡ []
  filter_union p q r so [] a b = refl
  filter_union p q r so (x ∷ xs) a b = go (p x) (q x) (r x) refl refl refl a b (filter_union p q r so xs)
    where
      go : (i j k : Bool) → p x ≡ i → q x ≡ j → r x ≡ k → cond i (x ∷ filter p xs) (filter p xs) ≡ [] → cond j (x ∷ filter q xs) (filter q xs) ≡ []
          → (filter p xs ≡ [] → filter q xs ≡ [] → filter r xs ≡ []) → cond k (x ∷ filter r xs) (filter r xs) ≡ []
      go true j k e f g a b more = cc
      go false true k e f g a b more = cc
      go false false true e f g a b more = absurd (false≢true (sym (so x e f) ∙ g))
      go false false false e f g a b more = more a b

module _ {E : Type 0} (by : E → ℕ) where
  pub is_under-true : (low end : ℕ) (e : E) → is_under by low end e ≡ true → (low ≤ by e) × (by e < end)
  is_under-true low end e t = let p = and_parts (nat_le low (by e)) (nat_lt (by e) end) t in (leb-true low (by e) p.0, ltb-true (by e) end p.1)

  pub is_under-from : (low end : ℕ) (e : E) → low ≤ by e → by e < end → is_under by low end e ≡ true
  is_under-from low end e a b = grind (arith, nat_tests)

  -- an entry under no name of these
  pub not_under : (low end : ℕ) (e : E) → ((low ≤ by e) → (by e < end) → ⊥) → is_under by low end e ≡ false
  not_under low end e out = go (is_under by low end e) refl
    where
      go : (b : Bool) → is_under by low end e ≡ b → b ≡ false
      go true t = let p = is_under-true low end e t in absurd (out p.0 p.1)
      go false t = refl

  -- fewer names
  pub under_narrower : (low end low' end' : ℕ) → low ≤ low' → end' ≤ end → (xs : List E) → entries_under by low end xs ≡ [] → entries_under by low' end' xs ≡ []
  under_narrower low end low' end' a b = filter_narrower (is_under by low end) (is_under by low' end')
      (λ e t. let p = is_under-true low' end' e t in let l : low' ≤ by e = p.0 in let h : by e < end' = p.1 in is_under-from low end e (omega arith) (omega arith))

  -- the names up to the middle, and from it on
  pub under_both : (low middle end : ℕ) (xs : List E) → entries_under by low middle xs ≡ [] → entries_under by middle end xs ≡ [] → entries_under by low end xs ≡ []
  under_both low middle end = filter_union (is_under by low middle) (is_under by middle end) (is_under by low end)
      (λ e a b. grind (arith, nat_tests))

  pub continues_itself : (low end : ℕ) (xs : List E) → Continues by low end xs xs
  continues_itself low end xs = ([], sym (append-nil xs), refl)

  pub continues_push : (low end : ℕ) (xs ys : List E) (e : E) → Continues by low end xs ys → is_under by low end e ≡ false → Continues by low end xs (ys ++ e ∷ [])
  continues_push low end xs ys e (rest, whole, none) not = (
    rest ++ e ∷ [],
    ap (λ (zs : List E). zs ++ e ∷ []) whole ∙ append_assoc xs rest (e ∷ []),
    filter-append (is_under by low end) rest (e ∷ []) ∙ ap (λ (zs : List E). zs ++ filter (is_under by low end) (e ∷ [])) none ∙ ap (λ (b : Bool). cond b (e ∷ []) []) not,
  )

  pub continues_narrower : (low end low' end' : ℕ) → low ≤ low' → end' ≤ end → (xs ys : List E) → Continues by low end xs ys → Continues by low' end' xs ys
  continues_narrower low end low' end' a b xs ys (rest, whole, none) = (rest, whole, under_narrower low end low' end' a b rest none)

  -- what stands under the names of a pass is what the pass has seen of it
  pub mine_continues : (low end : ℕ) (xs ys : List E) → Continues by low end xs ys → entries_under by low end ys ≡ entries_under by low end xs
  mine_continues low end xs ys (rest, whole, none) =
      ap (entries_under by low end) whole ∙ (filter-append (is_under by low end) xs rest ∙ (ap (λ (zs : List E). entries_under by low end xs ++ zs) none ∙ append-nil (entries_under by low end xs)))

  -- a longer beginning of the history goes on from a shorter one, and has all of its names
  pub continues_longer : (low end low' end' : ℕ) (xs ys log : List E) → length xs ≤ length ys → Continues by low end xs log → Continues by low' end' ys log
      → Continues by low end xs ys × ((rest : List E) × (log ≡ ys ++ rest) × (entries_under by low end rest ≡ []) × (entries_under by low' end' rest ≡ []))
  continues_longer low end low' end' xs ys log le (r, whole, none) (s, whole', none') =
      let (m, is, parts) = between xs ys r s (sym whole ∙ whole') le in
      let none_of : entries_under by low end m ++ entries_under by low end s ≡ [] = sym (filter-append (is_under by low end) m s) ∙ (ap (entries_under by low end) (sym parts) ∙ none) in (
        (m, is, none_left (entries_under by low end m) (entries_under by low end s) none_of),
        (s, whole', none_right (entries_under by low end m) (entries_under by low end s) none_of, none'),
      )

  -- What two passes have seen, put together: the longer goes on from both, and the history from it.
  pub record Meet (low middle end : ℕ) (xs ys zs log : List E) : Type 0 where
    pub first : Continues by low middle xs zs
    pub second : Continues by middle end ys zs
    pub both : Continues by low end zs log

  pub meet : (low middle end : ℕ) (xs ys log : List E) → Continues by low middle xs log → Continues by middle end ys log → Meet low middle end xs ys (longer_of xs ys) log
  meet low middle end xs ys log p q = go (nat_lt (length xs) (length ys)) refl
    where
      go : (b : Bool) → nat_lt (length xs) (length ys) ≡ b → Meet low middle end xs ys (cond b ys xs) log
      go true t =
          let lt : length xs < length ys = ltb-true (length xs) (length ys) t in
          let (one, more) = continues_longer low middle middle end xs ys log (omega arith) p q in
          record { first = one; second = continues_itself middle end ys; both = (more.0, more.1, under_both low middle end more.0 more.2 more.3) }
      go false t =
          let (one, more) = continues_longer middle end low middle ys xs log (ltb-false (length xs) (length ys) t) q p in
          record { first = continues_itself low middle xs; second = one; both = (more.0, more.1, under_both low middle end more.0 more.3 more.2) }

-- the beginning of a rising list rises
pub rising_prefix : {E : Type 0} (R : E → E → Type 0) (xs rest : List E) → AllPairs R (xs ++ rest) → AllPairs R xs
rising_prefix R xs rest all i j d lt near =
    let e = get_or_append_left xs rest d i (omega arith) in
    let f = get_or_append_left xs rest d j near in
    let long = length-append xs rest in
    let r = all i j d lt (omega arith) in
    rw e at (rw f at r)

-- what holds of each of a list holds of each of its beginning
pub all_prefix : {E : Type 0} (P : E → Type 0) (xs rest : List E) → All P (xs ++ rest) → All P xs
all_prefix P xs rest all k d near =
    let e = get_or_append_left xs rest d k near in
    let long = length-append xs rest in
    let p = all k d (omega arith) in
    rw e at p
