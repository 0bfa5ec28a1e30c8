-- A row more in the table of entries is a row more in the grouping.
use Rattle.std.proofs.Common.{◌≡◌, ◌≢◌, ℕ, zero, suc, ◌+◌, ◌≤◌, ◌<◌, Bool, true, false, ltb, ◌||◌, inl, inr, ℤ, List, [], ◌∷◌, ◌++◌, length, map, take, drop, slice_get, Some, unwrap_or, refl, sym, ap, ◌∙◌, subst, arith}
use Rattle.std.specs.List.{AllByRecursion, IsDistinct}
use Rattle.std.proofs.lemmas.Bool.{cond-true, cond-false, cases_Bool, lt-ltb, le-ltb, ltb-true, ltb-false}
use Rattle.std.proofs.lemmas.List.{length-take-le, length-map}
use Rattle.std.specs.Global.{Vec}
use Rattle.hist_entries.specs.declared.key_cell.KeyCell.{KeyCell}
use Rattle.hist_entries.specs.declared.tally.Tally.{Tally}
use Rattle.hist_entries.specs.declared.next.Next.{Next}
use Rattle.hist_entries.specs.declared.next.Next.TheVariants as nexts
use Rattle.trace_hist.specs.declared.counts.Counts.TheInside.{Inside}
use Rattle.trace_format.specs.Cells.{Datum}
use Rattle.trace_trigger.specs.HistSpecs.{SpecSeen}
use Rattle.hist_entries.specs.Hits.{Hit}
use Rattle.hist_entries.specs.HistEntries.{Entry, same_key, is_among}
use Rattle.hist_entries.specs.RowPlaces.{Place, Unknown, In, Nowhere, entry_keys, IsPlaceOf}
use Rattle.trace_hist.specs.Groups.{Table, group, grouped}
use Rattle.hist_entries.specs.KeptEntries.{entry_in, entries_in, empty_entry, place_at, place_in, IsEnd, counted_once, counted_at}
use Rattle.trace_hist.specs.Stored.{seen, IsSound, Kept}
use Rattle.trace_hist.specs.private.Steps.{bumped, first_entry, stepped, after_row, after_hit}
use Rattle.hist_entries.proofs.Keys.{key-refl, not_same}
use Rattle.trace_hist.proofs.GroupLaws.{group-push}
use Rattle.hist_entries.proofs.Reserving.{among-take}

some_is : {X : Type 0} {x y : X} → Some x ≡ Some y → x ≡ y
some_is {X} {x} {y} e = ap (λ o. unwrap_or o x) e

-- ---- the entry at an index

-- what was reserved is the entry of the row's key
pub known-at : (entries : List Entry) (i size : ℕ) (shown : List Entry) (key : List Datum) → IsPlaceOf (place_at (slice_get entries i)) size shown key
    → (i < length entries) × (slice_get (entry_keys entries) i ≡ Some key)
known-at [] i size shown key h = absurd h
known-at (e ∷ entries) zero size shown key h = (omega arith, ap Some h)
known-at (e ∷ entries) (suc i) size shown key h = let rest = known-at entries i size shown key h in (omega (arith, rest.0), rest.1)

apart-at : (P : List Datum → Type 0) (keys : List (List Datum)) (i : ℕ) (key : List Datum) → AllByRecursion P keys → slice_get keys i ≡ Some key → P key
apart-at P [] i key h at = cc
apart-at P (k ∷ keys) zero key h at = subst P (some_is at) h.0
apart-at P (k ∷ keys) (suc i) key h at = apart-at P keys i key h.1 at

none-bumped : (n : ℕ) (entries : List Entry) (hit : Hit) → AllByRecursion (λ other. same_key hit.key other ≡ false) (entry_keys entries)
    → take n entries ≡ map (bumped hit) (take n entries)
none-bumped zero entries hit h = refl
none-bumped (suc n) [] hit h = refl
none-bumped (suc n) (e ∷ entries) hit h =
    ap (λ l. e ∷ l) (none-bumped n entries hit h.1)
    ∙ ap (λ (x : Entry). x ∷ map (bumped hit) (take n entries)) (sym (cond-false _ (counted_once hit.numbers e) e (not_same hit.key e.key h.0)))

-- a row more in an entry that is shown
pub bumped-at : (n : ℕ) (entries : List Entry) (i : ℕ) (hit : Hit) → IsDistinct same_key (entry_keys entries)
    → slice_get (entry_keys entries) i ≡ Some hit.key → i < n → take n (counted_at hit.numbers i entries) ≡ map (bumped hit) (take n entries)
unfolding IsDistinct
bumped-at n [] i hit h at lt = cc
bumped-at zero (e ∷ entries) i hit h at lt = absurd (omega (arith, lt))
bumped-at (suc n) (e ∷ entries) zero hit h at lt =
    let key : e.key ≡ hit.key = some_is at in
    let same : same_key e.key hit.key ≡ true = ap (same_key e.key) (sym key) ∙ key-refl e.key in
    let apart = subst (λ (k : List Datum). AllByRecursion (λ other. same_key k other ≡ false) (entry_keys entries)) key h.0 in
    ap (λ l. counted_once hit.numbers e ∷ l) (none-bumped n entries hit apart)
    ∙ ap (λ (x : Entry). x ∷ map (bumped hit) (take n entries)) (sym (cond-true _ (counted_once hit.numbers e) e same))
bumped-at (suc n) (e ∷ entries) (suc i) hit h at lt =
    let other : same_key e.key hit.key ≡ false = apart-at (λ k. same_key e.key k ≡ false) (entry_keys entries) i hit.key h.0 at in
    ap (λ l. e ∷ l) (bumped-at n entries i hit h.1 at (omega (arith, lt)))
    ∙ ap (λ (x : Entry). x ∷ map (bumped hit) (take n entries)) (sym (cond-false _ (counted_once hit.numbers e) e other))

pub among-at : (n : ℕ) (entries : List Entry) (i : ℕ) (key : List Datum) → slice_get (entry_keys entries) i ≡ Some key → i < n
    → is_among (entry_keys (take n entries)) key ≡ true
among-at n [] i key at lt = cc
among-at zero (e ∷ entries) i key at lt = absurd (omega (arith, lt))
among-at (suc n) (e ∷ entries) zero key at lt =
    ap (λ b. b || is_among (entry_keys (take n entries)) key) (ap (same_key key) (some_is at) ∙ key-refl key)
among-at (suc n) (e ∷ entries) (suc i) key at lt =
    ap (λ b. same_key key e.key || b) (among-at n entries i key at (omega (arith, lt))) ∙ or-true (same_key key e.key)
  where
    or-true : (b : Bool) → (b || true) ≡ true
    or-true true = refl
    or-true false = refl

-- none is reserved for a key of no entry
pub unreserved-new : (entries : List Entry) (next : Next) (key : List Datum) → is_among (entry_keys entries) key ≡ false → place_in entries next ≢ In key
unreserved-new entries nexts.Unknown key new = λ e. cc
unreserved-new entries nexts.Dropped key new = λ e. cc
unreserved-new entries (nexts.At i) key new = λ e.
    let place : IsPlaceOf (place_at (slice_get entries i)) 0 [] key = subst (λ (p : Place). IsPlaceOf p 0 [] key) (sym e) refl in
    let known = known-at entries i 0 [] key place in
    let clash = sym (among-take (suc i) entries key new) ∙ among-at (suc i) entries i key known.1 (omega arith) in
    cc

-- the key of the reserved entry is that of none that is shown
pub new-at : (n : ℕ) (entries : List Entry) (key : List Datum) → IsDistinct same_key (entry_keys entries) → slice_get (entry_keys entries) n ≡ Some key
    → is_among (entry_keys (take n entries)) key ≡ false
unfolding IsDistinct
new-at n [] key h at = cc
new-at zero (e ∷ entries) key h at = refl
new-at (suc n) (e ∷ entries) key h at =
    ap (λ b. b || is_among (entry_keys (take n entries)) key)
    (not_same e.key key (apart-at (λ k. same_key e.key k ≡ false) (entry_keys entries) n key h.0 at))
    ∙ new-at n entries key h.1 at

-- a first row in the reserved entry
pub first-at : (width n : ℕ) (entries : List Entry) (hit : Hit) → slice_get (entry_keys entries) n ≡ Some hit.key → IsEnd width (drop n entries)
    → take (suc n) (counted_at hit.numbers n entries) ≡ take n entries ++ first_entry width hit ∷ []
first-at width n [] hit at end = cc
first-at width zero (e ∷ []) hit at end =
    ap (λ (x : Entry). counted_once hit.numbers x ∷ []) end
    ∙ ap (λ (k : List Datum). counted_once hit.numbers (empty_entry width k) ∷ []) (some_is at)
first-at width zero (e ∷ f ∷ entries) hit at end = absurd end
first-at width (suc n) (e ∷ entries) hit at end = ap (λ l. e ∷ l) (first-at width n entries hit at end)

-- ---- the table

same_table : (a b : List Entry) (hits dropped : ℕ) → a ≡ b
    → (let table : Table = record { entries = a; hits = hits; dropped = dropped } in table) ≡ record { entries = b; hits = hits; dropped = dropped }
same_table a b hits dropped e = ap (λ (l : List Entry). let table : Table = record { entries = l; hits = hits; dropped = dropped } in table) e

end-length : (width n : ℕ) (entries : List Entry) → IsEnd width (drop n entries) → length entries ≤ n + 1
end-length width zero [] end = omega arith
end-length width zero (e ∷ []) end = omega arith
end-length width zero (e ∷ f ∷ entries) end = absurd end
end-length width (suc n) [] end = omega arith
end-length width (suc n) (e ∷ entries) end = let h = end-length width n entries end in omega (arith, h)

pub length-counted : (numbers : List ℤ) (i : ℕ) (entries : List Entry) → length (counted_at numbers i entries) ≡ length entries
length-counted numbers i [] = refl
length-counted numbers zero (e ∷ entries) = refl
length-counted numbers (suc i) (e ∷ entries) = ap suc (length-counted numbers i entries)

place-counted : (numbers : List ℤ) (i : ℕ) (entries : List Entry) (next : Next) → place_in (counted_at numbers i entries) next ≡ place_in entries next
place-counted numbers i entries nexts.Unknown = refl
place-counted numbers i entries nexts.Dropped = refl
place-counted numbers i entries (nexts.At j) = at i entries j
  where
    at : (i : ℕ) (entries : List Entry) (j : ℕ) → place_at (slice_get (counted_at numbers i entries) j) ≡ place_at (slice_get entries j)
    at i [] j = refl
    at zero (e ∷ entries) zero = refl
    at zero (e ∷ entries) (suc j) = refl
    at (suc i) (e ∷ entries) zero = refl
    at (suc i) (e ∷ entries) (suc j) = at i entries j

drop-counted : (numbers : List ℤ) (n i : ℕ) (entries : List Entry) → i < n → drop n (counted_at numbers i entries) ≡ drop n entries
drop-counted numbers n i [] lt = refl
drop-counted numbers zero i (e ∷ entries) lt = absurd (omega (arith, lt))
drop-counted numbers (suc n) zero (e ∷ entries) lt = refl
drop-counted numbers (suc n) (suc i) (e ∷ entries) lt = drop-counted numbers n i entries (omega (arith, lt))

drop-all : (width n : ℕ) (entries : List Entry) → length entries ≤ n → IsEnd width (drop n entries)
drop-all width zero [] le = tt
drop-all width zero (e ∷ entries) le = absurd (omega (arith, le))
drop-all width (suc n) [] le = tt
drop-all width (suc n) (e ∷ entries) le = drop-all width n entries (omega (arith, le))

module _ (size width : ℕ) (entries : List Entry) (n i more hits dropped : ℕ) (hit : Hit) (distinct : IsDistinct same_key (entry_keys entries))
    (at : slice_get (entry_keys entries) i ≡ Some hit.key) (inside : i < length entries) (shown : n ≤ length entries) (fits : length entries ≤ size)
    (end : IsEnd width (drop n entries)) (below : i < n → more ≡ n) (above : n ≤ i → more ≡ length entries) where
  now : Table
  now = record { entries = take n entries; hits = hits; dropped = dropped }

  -- a row whose key has an entry, or a reserved one
  pub table-at : (let table : Table = record { entries = take more (counted_at hit.numbers i entries); hits = hits + 1; dropped = dropped } in table)
      ≡ after_row size width (record { entries = take n entries; hits = hits; dropped = dropped }) hit
  unfolding now
  table-at =
      elim (cases_Bool (ltb i n)) [
        | inl is ↦
            let lt : i < n = ltb-true _ _ is in
            let same : more ≡ n = below lt in
            same_table _ _ (hits + 1) dropped (ap (λ m. take m (counted_at hit.numbers i entries)) same ∙ bumped-at n entries i hit distinct at lt)
            ∙ ap (λ b. stepped b (ltb (length (take n entries)) size) width now hit) (sym (among-at n entries i hit.key at lt))
        | inr is ↦
            let le : n ≤ i = ltb-false _ _ is in
            let many = end-length width n entries end in
            let last : i ≡ n = omega (arith, le, many, inside) in
            let same : more ≡ suc n = omega (arith, above le, last, many, inside) in
            let there : slice_get (entry_keys entries) n ≡ Some hit.key = subst (λ (k : ℕ). slice_get (entry_keys entries) k ≡ Some hit.key) last at in
            let count = length-take-le n entries shown in
            let room : ltb (length (take n entries)) size ≡ true = lt-ltb _ _ (omega (arith, count, last, inside, fits)) in
            same_table _ _ (hits + 1) dropped (ap (λ m. take m (counted_at hit.numbers i entries)) same
            ∙ ap (λ (k : ℕ). take (suc n) (counted_at hit.numbers k entries)) last ∙ first-at width n entries hit there end)
            ∙ ap (λ b. stepped b true width now hit) (sym (new-at n entries hit.key distinct there))
            ∙ ap (λ b. stepped (is_among (entry_keys (take n entries)) hit.key) b width now hit) (sym room)
      ]

  pub end-at : IsEnd width (drop more (counted_at hit.numbers i entries))
  end-at =
      elim (cases_Bool (ltb i n)) [
        | inl is ↦
            let lt : i < n = ltb-true _ _ is in
            let same : more ≡ n = below lt in
            subst (IsEnd width) (sym (ap (λ m. drop m (counted_at hit.numbers i entries)) same ∙ drop-counted hit.numbers n i entries lt)) end
        | inr is ↦
            let le : n ≤ i = ltb-false _ _ is in
            let count = length-counted hit.numbers i entries in
            drop-all width more (counted_at hit.numbers i entries) (omega (arith, above le, count))
      ]

  pub shown-at : more ≤ length (counted_at hit.numbers i entries)
  shown-at =
      let count = length-counted hit.numbers i entries in
      elim (cases_Bool (ltb i n)) [
        | inl is ↦ omega (arith, below (ltb-true _ _ is), count, shown)
        | inr is ↦ omega (arith, above (ltb-false _ _ is), count)
      ]

-- a row whose key has no entry, where there is no room
pub table-full : (size width : ℕ) (table : Table) (hit : Hit) → is_among (entry_keys table.entries) hit.key ≡ false → size ≤ length table.entries
    → (let after : Table = record { entries = table.entries; hits = table.hits; dropped = table.dropped + 1 } in after) ≡ after_row size width table hit
table-full size width table hit new full =
    ap (λ b. stepped b false width table hit) (sym new)
    ∙ ap (λ b. stepped (is_among (entry_keys table.entries) hit.key) b width table hit) (sym (le-ltb _ _ full))

-- ---- what callers see

pub table-empty : (size width : ℕ) → (let table : Table = record { entries = []; hits = 0; dropped = 0 } in table) ≡ group size width []
table-empty zero width = refl
table-empty (suc size) width = refl

pub stands-after_row : (spec : SpecSeen) (size width : ℕ) (table : Table) (hits : List Hit) (hit : Hit) → size ≡ spec.size
    → width ≡ length spec.value_sources → table ≡ grouped spec hits → after_row size width table hit ≡ grouped spec (hits ++ hit ∷ [])
unfolding grouped
stands-after_row spec size width table hits hit d e stands =
    ap (λ n. after_row n width table hit) d ∙ ap (λ n. after_row spec.size n table hit) e
    ∙ ap (λ t. after_row spec.size (length spec.value_sources) t hit) stands ∙ sym (group-push spec.size (length spec.value_sources) hits hit)

counted-stepped : (known room : Bool) (width : ℕ) (table : Table) (hit : Hit)
    → (stepped known room width table hit).hits + (stepped known room width table hit).dropped ≡ table.hits + table.dropped + 1
counted-stepped true room width table hit = omega arith
counted-stepped false true width table hit = omega arith
counted-stepped false false width table hit = omega arith

pub counted-after_row : (size width : ℕ) (table : Table) (hit : Hit)
    → (after_row size width table hit).hits + (after_row size width table hit).dropped ≡ table.hits + table.dropped + 1
counted-after_row size width table hit = counted-stepped _ _ _ table hit

-- a place stays that of its key
pub still-place : (place : Place) (size width : ℕ) (table : Table) (hit : Hit) → IsPlaceOf place size table.entries hit.key
    → IsPlaceOf place size (after_row size width table hit).entries hit.key
still-place Unknown size width table hit h = h
still-place (In other) size width table hit h = h
still-place Nowhere size width table hit (new, full) =
    subst (λ (t : Table). IsPlaceOf Nowhere size t.entries hit.key) (table-full size width table hit new full) (new, full)

-- ---- the fields

module _ (h : Inside) (now : Kept) (hit : Hit) (view : seen h ≡ now) (reserved : IsPlaceOf now.next now.size now.table.entries hit.key) where
  entries : List Entry
  entries = entries_in h.kept.entries.entries

  -- what was reserved is where the row is counted
  pub reserved-place : IsPlaceOf (place_in (entries_in h.kept.entries.entries) h.next) h.kept.size (take h.kept.shown (entries_in h.kept.entries.entries))
      hit.key
  reserved-place = subst (λ (k : Kept). IsPlaceOf k.next k.size k.table.entries hit.key) (sym view) reserved

  pub reserved-at : (i : ℕ) → h.next ≡ nexts.At i
      → (i < length h.kept.entries.entries) × (slice_get (entry_keys (entries_in h.kept.entries.entries)) i ≡ Some hit.key)
  unfolding entries
  reserved-at i is =
      let place : IsPlaceOf (place_at (slice_get entries i)) h.kept.size (take h.kept.shown entries) hit.key =
      subst (λ (n : Next). IsPlaceOf (place_in entries n) h.kept.size (take h.kept.shown entries) hit.key) is reserved-place in
      let known = known-at entries i h.kept.size (take h.kept.shown entries) hit.key place in
      let count = length-map h.kept.entries.entries entry_in in
      (omega (arith, known.0, count), known.1)

  -- it is counted in an entry
  module _ (sound : IsSound h) (i more : ℕ) (is : h.next ≡ nexts.At i) (distinct : IsDistinct same_key (entry_keys (entries_in h.kept.entries.entries)))
      (below : i < h.kept.shown → more ≡ h.kept.shown) (above : h.kept.shown ≤ i → more ≡ length h.kept.entries.entries)
      (left : List (Vec KeyCell × Tally)) (e : entries_in left ≡ counted_at hit.numbers i (entries_in h.kept.entries.entries)) where
    count : length entries ≡ length h.kept.entries.entries
    unfolding entries
    count = length-map h.kept.entries.entries entry_in

    count-left : length (entries_in left) ≡ length left
    count-left = length-map left entry_in

    inside : i < length entries
    inside = omega (arith, (reserved-at i is).0, count)

    shown : h.kept.shown ≤ length entries
    shown = omega (arith, sound.shown, count)

    fits : length entries ≤ h.kept.size
    fits = omega (arith, sound.size, count)

    all : h.kept.shown ≤ i → more ≡ length entries
    all le = above le ∙ sym count

    pub seen-at : (let after : Kept = record {
      size = h.kept.size;
      width = h.kept.width;
      table = record { entries = take more (entries_in left); hits = h.hits + 1; dropped = h.dropped };
      next = place_in (entries_in left) h.next;
    } in after)
        ≡ after_hit now hit
    unfolding entries
    seen-at =
        ap (λ (l : List Entry). let s : Kept = record {
          size = h.kept.size;
          width = h.kept.width;
          table = record { entries = take more l; hits = h.hits + 1; dropped = h.dropped };
          next = place_in l h.next;
        } in s) e
        ∙ ap (λ (p : Place). let s : Kept = record {
          size = h.kept.size;
          width = h.kept.width;
          table = record { entries = take more (counted_at hit.numbers i entries); hits = h.hits + 1; dropped = h.dropped };
          next = p;
        } in s) (place-counted hit.numbers i entries h.next)
        ∙ ap (λ (t : Table). let s : Kept = record { size = h.kept.size; width = h.kept.width; table = t; next = place_in entries h.next } in s)
        (table-at h.kept.size h.kept.width entries h.kept.shown i more h.hits h.dropped hit distinct (reserved-at i is).1 inside shown fits sound.end below all)
        ∙ ap (λ (s : Kept). after_hit s hit) view

    pub left-shown : more ≤ length left
    unfolding entries
    left-shown =
        let le = shown-at h.kept.size h.kept.width entries h.kept.shown i more h.hits h.dropped hit distinct (reserved-at i is).1 inside shown fits sound.end below all in
        omega (arith, le, ap (λ (l : List Entry). length l) e, count-left)

    pub left-size : length left ≤ h.kept.size
    unfolding entries
    left-size = omega (arith, fits, ap (λ (l : List Entry). length l) e, count-left, length-counted hit.numbers i entries)

    pub left-end : IsEnd h.kept.width (drop more (entries_in left))
    unfolding entries
    left-end =
        subst (λ (l : List Entry). IsEnd h.kept.width (drop more l)) (sym e)
        (end-at h.kept.size h.kept.width entries h.kept.shown i more h.hits h.dropped hit distinct (reserved-at i is).1 inside shown fits sound.end below all)

  -- it is counted in none
  pub seen-dropped : h.next ≡ nexts.Dropped
      → (let after : Kept = record {
        size = h.kept.size;
        width = h.kept.width;
        table = record { entries = take h.kept.shown (entries_in h.kept.entries.entries); hits = h.hits; dropped = h.dropped + 1 };
        next = place_in (entries_in h.kept.entries.entries) h.next;
      } in after)
      ≡ after_hit now hit
  unfolding entries
  seen-dropped is =
      let place = subst (λ (n : Next). IsPlaceOf (place_in entries n) h.kept.size (take h.kept.shown entries) hit.key) is reserved-place in
      ap (λ (t : Table). let s : Kept = record { size = h.kept.size; width = h.kept.width; table = t; next = place_in entries h.next } in s)
      (table-full h.kept.size h.kept.width (seen h).table hit place.0 place.1)
      ∙ ap (λ (s : Kept). after_hit s hit) view

  pub not-unknown : h.next ≡ nexts.Unknown → ⊥
  not-unknown is =
      subst (λ (n : Next). IsPlaceOf (place_in (entries_in h.kept.entries.entries) n) h.kept.size (take h.kept.shown (entries_in h.kept.entries.entries))
      hit.key) is reserved-place
