-- A histogram may be kept row by row.
use Rattle.std.proofs.Common.{◌≡◌, ℕ, zero, suc, ℤ, pos, ◌+◌, ◌≤◌, ◌<◌, Bool, true, false, cond, not, ltb, ◌||◌, inl, inr, List, [], ◌∷◌, ◌++◌, length, map, take, replicate, filter, refl, sym, ap, ◌∙◌, arith}
use Rattle.std.specs.List.{list_any}
use Rattle.std.proofs.lemmas.Bool.{cond-true, cond-false, cases_Bool, ltb-true, ltb-false}
use Rattle.std.proofs.Math.Bool.{or-false, or-true}
use Rattle.std.proofs.lemmas.List.{append-nil, map-append, length-append, length-map, length-take, take-append-le}
use Rattle.std.proofs.lemmas.List.Elements.{filter-append}
use Rattle.std.proofs.lemmas.List.Folds.{list_any-append}
use Rattle.trace_format.specs.Cells.{Datum}
use Rattle.hist_entries.specs.Hits.{Hit}
use Rattle.hist_entries.specs.HistEntries.{Entry, same_key, is_among, added}
use Rattle.trace_hist.specs.Groups.{Table, distinct, keys_of, admitted, with_key, summed, entry_of, group}
use Rattle.trace_hist.specs.private.Steps.{bumped, first_entry, stepped, after_row}
use Rattle.hist_entries.proofs.Keys.{not_same, key_decided, key-refl}
use Rattle.trace_hist.proofs.DistinctKeys.{is_among-distinct, distinct-known, distinct-new}

-- ---- entries

summed-push : (sums : List ℤ) (hits : List Hit) (hit : Hit) → summed sums (hits ++ hit ∷ []) ≡ added (summed sums hits) hit.numbers
summed-push sums [] hit = refl
summed-push sums (h ∷ hits) hit = summed-push (added sums h.numbers) hits hit

pub with_key-same : (key : List Datum) (hits : List Hit) (hit : Hit) → same_key key hit.key ≡ true → with_key key (hits ++ hit ∷ []) ≡ with_key key hits ++ hit ∷ []
with_key-same key hits hit h =
    filter-append (λ (x : Hit). same_key key x.key) hits (hit ∷ []) ∙ ap (λ l. with_key key hits ++ l) (cond-true _ (hit ∷ []) [] h)

pub with_key-other : (key : List Datum) (hits : List Hit) (hit : Hit) → same_key key hit.key ≡ false → with_key key (hits ++ hit ∷ []) ≡ with_key key hits
with_key-other key hits hit h =
    filter-append (λ (x : Hit). same_key key x.key) hits (hit ∷ [])
    ∙ ap (λ l. with_key key hits ++ l) (cond-false _ (hit ∷ []) [] h) ∙ append-nil (with_key key hits)

of_rows : ℕ → List Datum → List Hit → Entry
of_rows width key rows = record { key = key; hitcount = length rows; sums = summed (replicate width (pos 0)) rows }

entry_of-push : (width : ℕ) (hits : List Hit) (hit : Hit) (key : List Datum) → entry_of width (hits ++ hit ∷ []) key ≡ bumped hit (entry_of width hits key)
unfolding of_rows
entry_of-push width hits hit key =
    elim (cases_Bool (same_key key hit.key)) [
      | inl alike ↦
          let rows = with_key key hits in
          ap (of_rows width key) (with_key-same key hits hit alike)
          ∙ ap (λ n. record { key = key; hitcount = n; sums = summed (replicate width (pos 0)) (rows ++ hit ∷ []) }) (length-append rows (hit ∷ []))
          ∙ ap (λ sums. record { key = key; hitcount = length rows + 1; sums = sums }) (summed-push (replicate width (pos 0)) rows hit)
          ∙ sym (cond-true _ (record { key = key; hitcount = length rows + 1; sums = added (summed (replicate width (pos 0)) rows) hit.numbers })
          (entry_of width hits key) alike)
      | inr apart ↦
          let rows = with_key key hits in
          ap (of_rows width key) (with_key-other key hits hit apart)
          ∙ sym (cond-false _ (record { key = key; hitcount = length rows + 1; sums = added (summed (replicate width (pos 0)) rows) hit.numbers })
          (entry_of width hits key) apart)
    ]

-- the entries of keys, with one row more
entries-push : (width : ℕ) (hits : List Hit) (hit : Hit) (keys : List (List Datum))
    → map (entry_of width (hits ++ hit ∷ [])) keys ≡ map (bumped hit) (map (entry_of width hits) keys)
entries-push width hits hit [] = refl
entries-push width hits hit (key ∷ keys) =
    ap (λ e. e ∷ map (entry_of width (hits ++ hit ∷ [])) keys) (entry_of-push width hits hit key)
    ∙ ap (λ l. bumped hit (entry_of width hits key) ∷ l) (entries-push width hits hit keys)

-- a row of another key changes no entry
bumped-none : (width : ℕ) (hits : List Hit) (hit : Hit) (keys : List (List Datum)) → is_among keys hit.key ≡ false
    → map (bumped hit) (map (entry_of width hits) keys) ≡ map (entry_of width hits) keys
bumped-none width hits hit [] h = refl
bumped-none width hits hit (key ∷ keys) h =
    elim (cases_Bool (same_key hit.key key)) [
      | inl alike ↦ let clash = sym h ∙ ap (λ b. b || is_among keys hit.key) alike in cc
      | inr apart ↦
          let rest : is_among keys hit.key ≡ false = sym (ap (λ b. b || is_among keys hit.key) apart) ∙ h in
          let other : same_key key hit.key ≡ false = elim (cases_Bool (same_key key hit.key)) [
            | inr apart ↦ apart
            | inl alike ↦ let clash = sym apart ∙ ap (same_key hit.key) ((key_decided key hit.key).0 alike) ∙ key-refl hit.key in cc
          ] in
          ap (λ e. e ∷ map (bumped hit) (map (entry_of width hits) keys)) (cond-false _ _ (entry_of width hits key) other)
          ∙ ap (λ l. entry_of width hits key ∷ l) (bumped-none width hits hit keys rest)
    ]

-- rows of which none has the key
with_key-none : (key : List Datum) (hits : List Hit) → is_among (keys_of hits) key ≡ false → with_key key hits ≡ []
with_key-none key [] h = refl
with_key-none key (hit ∷ hits) h =
    elim (cases_Bool (same_key key hit.key)) [
      | inl alike ↦ let clash = sym h ∙ ap (λ b. b || is_among (keys_of hits) key) alike in cc
      | inr apart ↦
          let rest : is_among (keys_of hits) key ≡ false = sym (ap (λ b. b || is_among (keys_of hits) key) apart) ∙ h in
          cond-false _ _ (with_key key hits) apart ∙ with_key-none key hits rest
    ]

entry_of-first : (width : ℕ) (hits : List Hit) (hit : Hit) → is_among (keys_of hits) hit.key ≡ false
    → entry_of width (hits ++ hit ∷ []) hit.key ≡ first_entry width hit
unfolding of_rows
entry_of-first width hits hit h =
    ap (of_rows width hit.key) (with_key-same hit.key hits hit (key-refl hit.key) ∙ ap (λ l. l ++ hit ∷ []) (with_key-none hit.key hits h))

pub keys_of-push : (hits : List Hit) (hit : Hit) → keys_of (hits ++ hit ∷ []) ≡ keys_of hits ++ hit.key ∷ []
keys_of-push hits hit = map-append (λ (h : Hit). h.key) hits (hit ∷ [])

pub entry_keys-of : (width : ℕ) (hits : List Hit) (keys : List (List Datum)) → map (λ (e : Entry). e.key) (map (entry_of width hits) keys) ≡ keys
entry_keys-of width hits [] = refl
entry_keys-of width hits (key ∷ keys) = ap (λ l. key ∷ l) (entry_keys-of width hits keys)

same_table : (a b : Table) → a.entries ≡ b.entries → a.hits ≡ b.hits → a.dropped ≡ b.dropped → a ≡ b
same_table a b entries hits dropped =
    ap (λ (e : List Entry). record { entries = e; hits = a.hits; dropped = a.dropped }) entries
    ∙ ap (λ (n : ℕ). record { entries = b.entries; hits = n; dropped = a.dropped }) hits
    ∙ ap (λ (n : ℕ). record { entries = b.entries; hits = b.hits; dropped = n }) dropped

-- entries of keys that the new row's key is none of, and the new row's
entries-new : (width : ℕ) (hits : List Hit) (hit : Hit) (keys : List (List Datum)) → is_among keys hit.key ≡ false
    → is_among (keys_of hits) hit.key ≡ false
    → map (entry_of width (hits ++ hit ∷ [])) (keys ++ hit.key ∷ []) ≡ map (entry_of width hits) keys ++ first_entry width hit ∷ []
entries-new width hits hit keys other new =
    map-append (entry_of width (hits ++ hit ∷ [])) keys (hit.key ∷ [])
    ∙ ap (λ l. l ++ entry_of width (hits ++ hit ∷ []) hit.key ∷ []) (entries-push width hits hit keys ∙ bumped-none width hits hit keys other)
    ∙ ap (λ e. map (entry_of width hits) keys ++ e ∷ []) (entry_of-first width hits hit new)

-- ---- the grouping of all rows

any-take : {X : Type 0} (test : X → Bool) (n : ℕ) (xs : List X) → list_any test xs ≡ false → list_any test (take n xs) ≡ false
any-take test zero xs h = refl
any-take test (suc n) [] h = refl
any-take test (suc n) (x ∷ xs) h =
    elim (cases_Bool (test x)) [
      | inl found ↦ let clash = sym h ∙ ap (λ b. b || list_any test xs) found in cc
      | inr other ↦
          let rest : list_any test xs ≡ false = sym (ap (λ b. b || list_any test xs) other) ∙ h in
          ap (λ b. b || list_any test (take n xs)) other ∙ any-take test n xs rest
    ]

take-all : {X : Type 0} (n : ℕ) (xs : List X) → length (take n xs) < n → take n xs ≡ xs
take-all zero xs h = absurd (omega arith)
take-all (suc n) [] h = refl
take-all (suc n) (x ∷ xs) h = ap (λ l. x ∷ l) (take-all n xs (omega (arith, h)))

take-all-le : {X : Type 0} (n : ℕ) (xs : List X) → length xs ≤ n → take n xs ≡ xs
take-all-le zero [] h = refl
take-all-le zero (x ∷ xs) h = absurd (omega arith)
take-all-le (suc n) [] h = refl
take-all-le (suc n) (x ∷ xs) h = ap (λ l. x ∷ l) (take-all-le n xs (omega (arith, h)))

-- rows without a key, counted by keys with it
module _ (g : Bool → Bool) where
  filter-none : (keys : List (List Datum)) (key : List Datum) (hits : List Hit) → is_among (keys_of hits) key ≡ false
      → filter (λ (h : Hit). g (is_among (keys ++ key ∷ []) h.key)) hits ≡ filter (λ (h : Hit). g (is_among keys h.key)) hits
  filter-none keys key [] h = refl
  filter-none keys key (hit ∷ hits) h =
      elim (cases_Bool (same_key key hit.key)) [
        | inl alike ↦ let clash = sym h ∙ ap (λ b. b || is_among (keys_of hits) key) alike in cc
        | inr apart ↦
            let rest : is_among (keys_of hits) key ≡ false = sym (ap (λ b. b || is_among (keys_of hits) key) apart) ∙ h in
            let more : is_among (keys ++ key ∷ []) hit.key ≡ is_among keys hit.key =
            list_any-append (same_key hit.key) keys (key ∷ [])
            ∙ ap (λ b. is_among keys hit.key || (b || false)) (not_same key hit.key apart) ∙ or-false (is_among keys hit.key) in
            ap (λ b. cond (g b) (hit ∷ filter (λ (h : Hit). g (is_among (keys ++ key ∷ []) h.key)) hits)
            (filter (λ (h : Hit). g (is_among (keys ++ key ∷ []) h.key)) hits)) more
            ∙ ap (λ l. cond (g (is_among keys hit.key)) (hit ∷ l) l) (filter-none keys key hits rest)
      ]

-- a list with one element more that passes a test, or that does not
count-one : (p : Hit → Bool) (hits : List Hit) (hit : Hit) → p hit ≡ true → length (filter p (hits ++ hit ∷ [])) ≡ length (filter p hits) + 1
count-one p hits hit h =
    ap length (filter-append p hits (hit ∷ []) ∙ ap (λ l. filter p hits ++ l) (cond-true _ (hit ∷ []) [] h)) ∙ length-append (filter p hits) (hit ∷ [])

count-none : (p : Hit → Bool) (hits : List Hit) (hit : Hit) → p hit ≡ false → length (filter p (hits ++ hit ∷ [])) ≡ length (filter p hits)
count-none p hits hit h =
    ap length (filter-append p hits (hit ∷ []) ∙ ap (λ l. filter p hits ++ l) (cond-false _ (hit ∷ []) [] h) ∙ append-nil (filter p hits))

-- the table of rows, by the keys that have entries
by_keys : ℕ → List (List Datum) → List Hit → Table
by_keys width keys hits = record {
  entries = map (entry_of width hits) keys;
  hits = length (filter (λ (h : Hit). is_among keys h.key) hits);
  dropped = length (filter (λ (h : Hit). not (is_among keys h.key)) hits);
}

by_keys-known : (width : ℕ) (keys : List (List Datum)) (hits : List Hit) (hit : Hit) (room : Bool) → is_among keys hit.key ≡ true
    → by_keys width keys (hits ++ hit ∷ []) ≡ stepped true room width (by_keys width keys hits) hit
unfolding by_keys
by_keys-known width keys hits hit room known =
    same_table (by_keys width keys (hits ++ hit ∷ [])) (stepped true room width (by_keys width keys hits) hit) (entries-push width hits hit keys)
    (count-one (λ (h : Hit). is_among keys h.key) hits hit known)
    (count-none (λ (h : Hit). not (is_among keys h.key)) hits hit (ap not known))

by_keys-full : (width : ℕ) (keys : List (List Datum)) (hits : List Hit) (hit : Hit) → is_among keys hit.key ≡ false
    → by_keys width keys (hits ++ hit ∷ []) ≡ stepped false false width (by_keys width keys hits) hit
unfolding by_keys
by_keys-full width keys hits hit other =
    same_table (by_keys width keys (hits ++ hit ∷ [])) (stepped false false width (by_keys width keys hits) hit)
    (entries-push width hits hit keys ∙ bumped-none width hits hit keys other)
    (count-none (λ (h : Hit). is_among keys h.key) hits hit other)
    (count-one (λ (h : Hit). not (is_among keys h.key)) hits hit (ap not other))

by_keys-new : (width : ℕ) (keys : List (List Datum)) (hits : List Hit) (hit : Hit) → is_among keys hit.key ≡ false
    → is_among (keys_of hits) hit.key ≡ false
    → by_keys width (keys ++ hit.key ∷ []) (hits ++ hit ∷ []) ≡ stepped false true width (by_keys width keys hits) hit
unfolding by_keys
by_keys-new width keys hits hit other new =
    let now : is_among (keys ++ hit.key ∷ []) hit.key ≡ true =
    list_any-append (same_key hit.key) keys (hit.key ∷ [])
    ∙ ap (λ b. is_among keys hit.key || (b || false)) (key-refl hit.key) ∙ or-true (is_among keys hit.key) in
    same_table (by_keys width (keys ++ hit.key ∷ []) (hits ++ hit ∷ [])) (stepped false true width (by_keys width keys hits) hit)
    (entries-new width hits hit keys other new)
    (count-one (λ (h : Hit). is_among (keys ++ hit.key ∷ []) h.key) hits hit now
    ∙ ap (λ (l : List Hit). length l + 1) (filter-none (λ b. b) keys hit.key hits new))
    (count-none (λ (h : Hit). not (is_among (keys ++ hit.key ∷ []) h.key)) hits hit (ap not now)
    ∙ ap (λ (l : List Hit). length l) (filter-none not keys hit.key hits new))

-- the keys that have entries, with one row more
admitted-known : (size : ℕ) (hits : List Hit) (hit : Hit) → is_among (keys_of hits) hit.key ≡ true → admitted size (hits ++ hit ∷ []) ≡ admitted size hits
admitted-known size hits hit known = ap (take size) (ap distinct (keys_of-push hits hit) ∙ distinct-known (keys_of hits) hit.key known)

admitted-new : (size : ℕ) (hits : List Hit) (hit : Hit) → is_among (keys_of hits) hit.key ≡ false
    → admitted size (hits ++ hit ∷ []) ≡ take size (distinct (keys_of hits) ++ hit.key ∷ [])
admitted-new size hits hit new = ap (take size) (ap distinct (keys_of-push hits hit) ∙ distinct-new (keys_of hits) hit.key new)

admitted-full : (size : ℕ) (hits : List Hit) (hit : Hit) → size ≤ length (admitted size hits) → admitted size (hits ++ hit ∷ []) ≡ admitted size hits
admitted-full size hits hit full =
    elim (cases_Bool (is_among (keys_of hits) hit.key)) [
      | inl known ↦ admitted-known size hits hit known
      | inr new ↦
          admitted-new size hits hit new
          ∙ take-append-le size (distinct (keys_of hits)) (hit.key ∷ []) (omega (arith, full, length-take size (distinct (keys_of hits))))
    ]

-- one row more does what a step says
pub group-push : (size width : ℕ) (hits : List Hit) (hit : Hit) → group size width (hits ++ hit ∷ []) ≡ after_row size width (group size width hits) hit
unfolding by_keys
group-push size width hits hit =
    let keys = admitted size hits in
    let table = group size width hits in
    let tests : after_row size width table hit ≡ stepped (is_among keys hit.key) (ltb (length keys) size) width table hit =
    ap (λ l. stepped (is_among l hit.key) (ltb (length table.entries) size) width table hit) (entry_keys-of width hits keys)
    ∙ ap (λ n. stepped (is_among keys hit.key) (ltb n size) width table hit) (length-map keys (entry_of width hits)) in
    let at : (b room : Bool) → is_among keys hit.key ≡ b → ltb (length keys) size ≡ room
    → stepped b room width table hit ≡ after_row size width table hit =
    λ b room e f. sym (tests ∙ ap (λ x. stepped x (ltb (length keys) size) width table hit) e ∙ ap (λ x. stepped b x width table hit) f) in
    elim (cases_Bool (is_among keys hit.key)) [
      | inl known ↦
          let among : is_among (keys_of hits) hit.key ≡ true = elim (cases_Bool (is_among (keys_of hits) hit.key)) [
            | inl among ↦ among
            | inr new ↦
                let clash = sym known ∙ any-take (same_key hit.key) size (distinct (keys_of hits)) (is_among-distinct (keys_of hits) hit.key ∙ new) in cc
          ] in
          ap (λ l. by_keys width l (hits ++ hit ∷ [])) (admitted-known size hits hit among)
          ∙ by_keys-known width keys hits hit (ltb (length keys) size) known ∙ at true (ltb (length keys) size) known refl
      | inr other ↦
          elim (cases_Bool (ltb (length keys) size)) [
            | inr full ↦
                ap (λ l. by_keys width l (hits ++ hit ∷ [])) (admitted-full size hits hit (ltb-false _ _ full))
                ∙ by_keys-full width keys hits hit other ∙ at false false other full
            | inl room ↦
                let all : keys ≡ distinct (keys_of hits) = take-all size (distinct (keys_of hits)) (ltb-true _ _ room) in
                let new : is_among (keys_of hits) hit.key ≡ false =
                sym (is_among-distinct (keys_of hits) hit.key) ∙ ap (λ l. is_among l hit.key) (sym all) ∙ other in
                let fits : length (distinct (keys_of hits) ++ hit.key ∷ []) ≤ size =
                omega (arith, ltb-true _ _ room, ap (λ (l : List (List Datum)). length l) all, length-append (distinct (keys_of hits)) (hit.key ∷ [])) in
                ap (λ l. by_keys width l (hits ++ hit ∷ []))
                (admitted-new size hits hit new ∙ take-all-le size (distinct (keys_of hits) ++ hit.key ∷ []) fits ∙ ap (λ l. l ++ hit.key ∷ []) (sym all))
                ∙ by_keys-new width keys hits hit other new ∙ at false true other room
          ]
    ]
