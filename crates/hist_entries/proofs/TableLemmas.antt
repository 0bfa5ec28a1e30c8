-- The table of entries: what a look-up and a new entry do.
use Rattle.std.proofs.Common.{◌≡◌, ℕ, zero, suc, ◌+◌, ◌≤◌, ◌<◌, Bool, true, false, ◌||◌, ◌&&◌, inl, inr, List, [], ◌∷◌, ◌++◌, length, map, take, get_or, slice_get, position, Option, None, Some, IfSome, IfNone, ℤ, pos, replicate, unwrap_or, refl, sym, ap, ◌∙◌, subst, arith}
use Rattle.std.specs.List.{list_any, position_from, AllByRecursion, IsDistinct}
use Rattle.std.specs.Map.{keys_of, values_of}
use Rattle.std.specs.Cmp.Lexicographic.{pointwise}
use Rattle.std.specs.Global.{Vec}
use Rattle.std.proofs.lemmas.Bool.{cases_Bool, cond-true, cond-false}
use Rattle.std.proofs.lemmas.Iterator.Adapters.{position_from-zero}
use Rattle.std.proofs.lemmas.List.Quantifiers.{position-Some}
use Rattle.trace_format.specs.Cells.{Datum}
use Rattle.hist_entries.specs.declared.key_cell.KeyCell.{KeyCell}
use Rattle.hist_entries.specs.declared.key_cell.KeyCell.TheVariants.{Num, Text}
use Rattle.hist_entries.specs.declared.tally.Tally.{Tally}
use Rattle.hist_entries.specs.contracts.key_cell.KeyCellPartialEq.TheImpl.{eq-value as key_cell_eq}
use Rattle.indexmap.specs.IndexMap.{insert_entry, set_value_at}
use Rattle.hist_entries.specs.HistEntries.{Entry, same_cell, same_key, is_among, added}
use Rattle.hist_entries.specs.RowPlaces.{entry_keys}
use Rattle.hist_entries.specs.KeptEntries.{datum_in, cells_in, entry_in, entries_in, empty_entry, AreCounted, counted_at}
use Rattle.hist_entries.specs.Numbers.{AreWithin}
use Rattle.hist_entries.proofs.Keys.{key_decided}
use Rattle.hist_entries.proofs.SumLaws.{within-more}

some_same : {X : Type 0} {x y : X} → Some x ≡ Some y → x ≡ y
some_same {X} {x} {y} e = ap (λ o. unwrap_or o x) e

-- a list of so many elements
pub one_of : {X : Type 0} (xs : List X) (x : X) → 1 ≤ length xs → length xs < 2 → x ≡ get_or xs 0 x → x ∷ [] ≡ xs
one_of [] x some few at = absurd (omega (arith, some))
one_of (a ∷ []) x some few at = ap (λ y. y ∷ []) at
one_of (a ∷ b ∷ xs) x some few at = absurd (omega (arith, few))

pub two_of : {X : Type 0} (xs : List X) (x y : X) → 2 ≤ length xs → length xs < 3 → x ≡ get_or xs 0 x → y ≡ get_or xs 1 y → x ∷ y ∷ [] ≡ xs
two_of [] x y some few at also = absurd (omega (arith, some))
two_of (a ∷ xs) x y some few at also =
    ap (λ z. z ∷ y ∷ []) at ∙ ap (λ ys. a ∷ ys) (one_of xs y (omega (arith, some)) (omega (arith, few)) also)

pub three_of : {X : Type 0} (xs : List X) (x y z : X) → 3 ≤ length xs → length xs ≤ 3 → x ≡ get_or xs 0 x → y ≡ get_or xs 1 y → z ≡ get_or xs 2 z → x ∷ y ∷ z ∷ [] ≡ xs
three_of [] x y z some few at also last = absurd (omega (arith, some))
three_of (a ∷ xs) x y z some few at also last =
    ap (λ w. w ∷ y ∷ z ∷ []) at ∙ ap (λ ys. a ∷ ys) (two_of xs y z (omega (arith, some)) (omega (arith, few)) also last)

-- ---- keys in the table, and keys as they are read

pub cell-is : (a b : KeyCell) → key_cell_eq.it a b ≡ same_cell (datum_in a) (datum_in b)
cell-is (Num m) (Num n) = refl
cell-is (Num m) (Text c) = refl
cell-is (Text b) (Num n) = refl
cell-is (Text b) (Text c) = refl

pub key-is : (xs ys : List KeyCell) → pointwise key_cell_eq.it xs ys ≡ same_key (map datum_in xs) (map datum_in ys)
key-is [] [] = refl
key-is [] (y ∷ ys) = refl
key-is (x ∷ xs) [] = refl
key-is (x ∷ xs) (y ∷ ys) = ap (λ b. b && pointwise key_cell_eq.it xs ys) (cell-is x y) ∙ ap (λ b. same_cell (datum_in x) (datum_in y) && b) (key-is xs ys)

pub among-is : (xs : List KeyCell) (pairs : List (Vec KeyCell × Tally))
    → list_any (λ (k : Vec KeyCell). pointwise key_cell_eq.it xs k.items) (keys_of pairs) ≡ is_among (entry_keys (entries_in pairs)) (map datum_in xs)
among-is xs [] = refl
among-is xs (p ∷ pairs) = ap (λ b. b || list_any (λ (k : Vec KeyCell). pointwise key_cell_eq.it xs k.items) (keys_of pairs)) (key-is xs p.0.items)
    ∙ ap (λ b. same_key (map datum_in xs) (cells_in p.0) || b) (among-is xs pairs)

-- ---- a look-up

slice_get-keys : (pairs : List (Vec KeyCell × Tally)) (i : ℕ) (key : List Datum) (d : Vec KeyCell) → i < length (keys_of pairs)
    → key ≡ cells_in (get_or (keys_of pairs) i d) → slice_get (entry_keys (entries_in pairs)) i ≡ Some key
slice_get-keys [] i key d lt e = absurd (omega (arith, lt))
slice_get-keys (p ∷ pairs) zero key d lt e = ap Some (sym e)
slice_get-keys (p ∷ pairs) (suc i) key d lt e = slice_get-keys pairs i key d (omega (arith, lt)) e

none_from : {X : Type 0} (test : X → Bool) (i : ℕ) (xs : List X) → position_from test i xs ≡ None → list_any test xs ≡ false
none_from test i [] h = refl
none_from test i (x ∷ xs) h =
    elim (cases_Bool (test x)) [
      | inl there ↦ let clash = sym h ∙ cond-true (test x) (Some i) (position_from test (i + 1) xs) there in cc
      | inr other ↦
          ap (λ b. b || list_any test xs) other
          ∙ none_from test (i + 1) xs (sym (cond-false (test x) (Some i) (position_from test (i + 1) xs) other) ∙ h)
    ]

none-at : {X : Type 0} (test : X → Bool) (xs : List X) → position test xs ≡ None → list_any test xs ≡ false
none-at test xs h = none_from test 0 xs (sym (position_from-zero test xs) ∙ h)

pub position-known : (cells : List KeyCell) (pairs : List (Vec KeyCell × Tally)) (found : Option ℕ)
    → found ≡ position (λ (k : Vec KeyCell). pointwise key_cell_eq.it cells k.items) (keys_of pairs)
    → IfSome found (λ index. slice_get (entry_keys (entries_in pairs)) index ≡ Some (map datum_in cells))
position-known cells pairs None e = tt
position-known cells [] (Some i) e = cc
position-known cells (p ∷ pairs) (Some i) e =
    let test : Vec KeyCell → Bool = λ k. pointwise key_cell_eq.it cells k.items in
    let h = position-Some test (keys_of (p ∷ pairs)) i p.0 (sym e) in
    slice_get-keys (p ∷ pairs) i (map datum_in cells) p.0 h.0
    ((key_decided (map datum_in cells) (cells_in (get_or (keys_of (p ∷ pairs)) i p.0))).0
    (sym (key-is cells (get_or (keys_of (p ∷ pairs)) i p.0).items) ∙ h.1))

pub position-new : (cells : List KeyCell) (pairs : List (Vec KeyCell × Tally)) (found : Option ℕ)
    → found ≡ position (λ (k : Vec KeyCell). pointwise key_cell_eq.it cells k.items) (keys_of pairs)
    → IfNone found (is_among (entry_keys (entries_in pairs)) (map datum_in cells) ≡ false)
position-new cells pairs (Some i) e = tt
position-new cells pairs None e =
    sym (among-is cells pairs) ∙ none-at (λ (k : Vec KeyCell). pointwise key_cell_eq.it cells k.items) (keys_of pairs) (sym e)

pub key-at : (pairs : List (Vec KeyCell × Tally)) (i : ℕ) (pair : Vec KeyCell × Tally) (key : List Datum) → Some pair ≡ slice_get pairs i
    → same_key (cells_in pair.0) key ≡ true → slice_get (entry_keys (entries_in pairs)) i ≡ Some key
key-at [] i pair key at same = cc
key-at (p ∷ pairs) zero pair key at same =
    let e : p ≡ pair = sym (some_same at) in
    ap Some (ap (λ (q : Vec KeyCell × Tally). cells_in q.0) e ∙ (key_decided (cells_in pair.0) key).0 same)
key-at (p ∷ pairs) (suc i) pair key at same = key-at pairs i pair key at same

-- ---- a row more

-- what is kept of an entry's rows is in range
pub tally-counted : (rows : ℕ) (pairs : List (Vec KeyCell × Tally)) (i : ℕ) (tally : Tally) → Some tally ≡ slice_get (values_of pairs) i
    → AreCounted rows (entries_in pairs) → (tally.hitcount ≤ rows) × AreWithin rows tally.sums.items
tally-counted rows [] i tally at h = cc
tally-counted rows (p ∷ pairs) zero tally at h =
    let same : tally ≡ p.1 = some_same at in
    subst (λ (t : Tally). (t.hitcount ≤ rows) × AreWithin rows t.sums.items) (sym same) h.0
tally-counted rows (p ∷ pairs) (suc i) tally at h = tally-counted rows pairs i tally at h.1

same_entry : (key : List Datum) (m n : ℕ) (sums totals : List ℤ) → m ≡ n → sums ≡ totals
    → (let entry : Entry = record { key = key; hitcount = m; sums = sums } in entry) ≡ record { key = key; hitcount = n; sums = totals }
same_entry key m n sums totals d e =
    ap (λ (k : ℕ). let entry : Entry = record { key = key; hitcount = k; sums = sums } in entry) d
    ∙ ap (λ (s : List ℤ). let entry : Entry = record { key = key; hitcount = n; sums = s } in entry) e

-- a row more in what is kept of an entry is one in the entry
pub counted_at-is : (numbers : List ℤ) (pairs : List (Vec KeyCell × Tally)) (i : ℕ) (tally more : Tally) → Some tally ≡ slice_get (values_of pairs) i
    → more.hitcount ≡ tally.hitcount + 1 → more.sums.items ≡ added tally.sums.items numbers
    → entries_in (set_value_at pairs i more) ≡ counted_at numbers i (entries_in pairs)
counted_at-is numbers [] i tally more at count sums = refl
counted_at-is numbers (p ∷ pairs) zero tally more at count sums =
    let same : tally ≡ p.1 = some_same at in
    ap (λ (e : Entry). e ∷ entries_in pairs)
    (same_entry (cells_in p.0) more.hitcount (p.1.hitcount + 1) more.sums.items (added p.1.sums.items numbers)
    (count ∙ ap (λ (t : Tally). t.hitcount + 1) same) (sums ∙ ap (λ (t : Tally). added t.sums.items numbers) same))
counted_at-is numbers (p ∷ pairs) (suc i) tally more at count sums =
    ap (λ l. entry_in p ∷ l) (counted_at-is numbers pairs i tally more at count sums)

pub counted-le : (m n : ℕ) (entries : List Entry) → m ≤ n → AreCounted m entries → AreCounted n entries
counted-le m n [] le h = tt
counted-le m n (e ∷ entries) le h = ((omega (arith, le, h.0.0), within-more m n e.sums le h.0.1), counted-le m n entries le h.1)

pub counted-more : (rows : ℕ) (numbers : List ℤ) (pairs : List (Vec KeyCell × Tally)) (i : ℕ) (tally : Tally) → Some tally ≡ slice_get (values_of pairs) i
    → (AreWithin rows tally.sums.items → AreWithin (rows + 1) (added tally.sums.items numbers)) → AreCounted rows (entries_in pairs)
    → AreCounted (rows + 1) (counted_at numbers i (entries_in pairs))
counted-more rows numbers [] i tally at more h = tt
counted-more rows numbers (p ∷ pairs) zero tally at more h =
    let same : tally ≡ p.1 = some_same at in
    let sums : AreWithin (rows + 1) (added p.1.sums.items numbers) =
    subst (λ (t : Tally). AreWithin (rows + 1) (added t.sums.items numbers)) same
    (more (subst (λ (t : Tally). AreWithin rows t.sums.items) (sym same) h.0.1)) in
    ((omega (arith, h.0.0), sums), counted-le rows (rows + 1) (entries_in pairs) (omega arith) h.1)
counted-more rows numbers (p ∷ pairs) (suc i) tally at more h =
    ((omega (arith, h.0.0), within-more rows (rows + 1) p.1.sums.items (omega arith) h.0.1), counted-more rows numbers pairs i tally at more h.1)

-- ---- distinct keys

-- a row more changes no key
pub keys-counted : (numbers : List ℤ) (i : ℕ) (entries : List Entry) → entry_keys (counted_at numbers i entries) ≡ entry_keys entries
keys-counted numbers i [] = refl
keys-counted numbers zero (e ∷ entries) = refl
keys-counted numbers (suc i) (e ∷ entries) = ap (λ (keys : List (List Datum)). e.key ∷ keys) (keys-counted numbers i entries)

apart-is : (key : Vec KeyCell) (pairs : List (Vec KeyCell × Tally))
    → AllByRecursion (λ (other : Vec KeyCell). pointwise key_cell_eq.it key.items other.items ≡ false) (keys_of pairs)
    → AllByRecursion (λ other. same_key (cells_in key) other ≡ false) (entry_keys (entries_in pairs))
apart-is key [] h = tt
apart-is key (p ∷ pairs) h = (sym (key-is key.items p.0.items) ∙ h.0, apart-is key pairs h.1)

pub distinct-is : (pairs : List (Vec KeyCell × Tally))
    → IsDistinct (λ (a b : Vec KeyCell). pointwise key_cell_eq.it a.items b.items) (keys_of pairs) → IsDistinct same_key (entry_keys (entries_in pairs))
unfolding IsDistinct
distinct-is [] h = tt
distinct-is (p ∷ pairs) h = (apart-is p.0 pairs h.0, distinct-is pairs h.1)

-- ---- entries that are shown

pub entries-more : (pairs : List (Vec KeyCell × Tally)) (i : ℕ) (pair : Vec KeyCell × Tally) → Some pair ≡ slice_get pairs i
    → take (suc i) (entries_in pairs) ≡ take i (entries_in pairs) ++ entry_in pair ∷ []
entries-more [] i pair at = cc
entries-more (p ∷ pairs) zero pair at = ap (λ (q : Vec KeyCell × Tally). entry_in q ∷ []) (sym (some_same at))
entries-more (p ∷ pairs) (suc i) pair at = ap (λ l. entry_in p ∷ l) (entries-more pairs i pair at)

-- ---- a new entry

or-false-left : (a b : Bool) → (a || b) ≡ false → (a ≡ false) × (b ≡ false)
or-false-left true b h = cc
or-false-left false b h = (refl, h)

pub inserted : (pairs : List (Vec KeyCell × Tally)) (key : Vec KeyCell) (tally : Tally) → is_among (entry_keys (entries_in pairs)) (cells_in key) ≡ false
    → insert_entry (λ (a b : Vec KeyCell). pointwise key_cell_eq.it a.items b.items) pairs key tally ≡ pairs ++ (key, tally) ∷ []
inserted [] key tally h = refl
inserted (p ∷ pairs) key tally h =
    let other = or-false-left _ _ h in
    cond-false _ ((p.0, tally) ∷ pairs) (p ∷ insert_entry (λ (a b : Vec KeyCell). pointwise key_cell_eq.it a.items b.items) pairs key tally)
    (key-is key.items p.0.items ∙ other.0)
    ∙ ap (λ l. p ∷ l) (inserted pairs key tally other.1)

-- an entry of no rows
pub empty-is : (width : ℕ) (read : List Datum) (key : Vec KeyCell) (tally : Tally) → cells_in key ≡ read → tally.hitcount ≡ 0
    → tally.sums.items ≡ replicate width (pos 0) → entry_in (key, tally) ≡ empty_entry width read
empty-is width read key tally d count sums =
    ap (λ (k : List Datum). let entry : Entry = record { key = k; hitcount = tally.hitcount; sums = tally.sums.items } in entry) d
    ∙ same_entry read tally.hitcount 0 tally.sums.items (replicate width (pos 0)) count sums
