-- Reserving: where a row is counted, and the entries that are shown.
use Rattle.std.proofs.Common.{◌≡◌, ℕ, zero, suc, ◌+◌, ◌≤◌, ◌<◌, false, ◌||◌, inl, inr, List, [], ◌∷◌, ◌++◌, length, take, drop, slice_get, Some, unwrap_or, refl, sym, ap, ◌∙◌, subst, arith}
use Rattle.std.specs.Global.{Vec}
use Rattle.std.specs.Prelude.{Result, Ok, Err, OnErr}
use Rattle.std.proofs.lemmas.Bool.{cases_Bool}
use Rattle.std.proofs.lemmas.List.{length-append, length-map, length-take-le}
use Rattle.trace_format.specs.Cells.{Datum}
use Rattle.hist_entries.specs.declared.key_cell.KeyCell.{KeyCell}
use Rattle.hist_entries.specs.declared.tally.Tally.{Tally}
use Rattle.hist_entries.specs.HistEntries.{Entry, same_key, is_among}
use Rattle.hist_entries.specs.RowPlaces.{entry_keys, IsPlaceOf}
use Rattle.hist_entries.specs.KeptEntries.{entry_in, entries_in, empty_entry, place_at, IsEnd, AreCounted, StayKept}
use Rattle.hist_entries.proofs.SumLaws.{within-zeros}

-- ---- where a row is counted

pub place-known : (entries : List Entry) (i : ℕ) (key : List Datum) (size : ℕ) (shown : List Entry) → slice_get (entry_keys entries) i ≡ Some key
    → IsPlaceOf (place_at (slice_get entries i)) size shown key
place-known [] i key size shown at = cc
place-known (e ∷ entries) zero key size shown at = ap (λ o. unwrap_or o key) at
place-known (e ∷ entries) (suc i) key size shown at = place-known entries i key size shown at

-- the key of none is that of none of the first
pub among-take : (n : ℕ) (entries : List Entry) (key : List Datum) → is_among (entry_keys entries) key ≡ false
    → is_among (entry_keys (take n entries)) key ≡ false
among-take zero entries key h = refl
among-take (suc n) [] key h = refl
among-take (suc n) (e ∷ entries) key h =
    elim (cases_Bool (same_key key e.key)) [
      | inl there ↦ let clash = sym h ∙ ap (λ b. b || is_among (entry_keys entries) key) there in cc
      | inr other ↦
          ap (λ b. b || is_among (entry_keys (take n entries)) key) other
          ∙ among-take n entries key (sym (ap (λ b. b || is_among (entry_keys entries) key) other) ∙ h)
    ]

pub length-shown : (pairs : List (Vec KeyCell × Tally)) (n : ℕ) → n ≤ length pairs
    → (length (take n (entries_in pairs)) ≡ n) × (n ≤ length (entries_in pairs))
length-shown pairs n le =
    let all : length (entries_in pairs) ≡ length pairs = length-map pairs entry_in in
    (length-take-le n (entries_in pairs) (omega (arith, le, all)), omega (arith, le, all))

-- what is told of an error is so
pub on_err : {T E P : Type 0} (r : Result T E) → P → OnErr r P
on_err (Ok value) fact = tt
on_err (Err error) fact = fact

-- ---- a new entry after those that are shown

module _ (n : ℕ) (entries : List Entry) (last : Entry) where
  pub length-put : n ≤ length entries → n ≤ length (take n entries ++ last ∷ [])
  length-put le = at n entries le
    where
      at : (n : ℕ) (entries : List Entry) → n ≤ length entries → n ≤ length (take n entries ++ last ∷ [])
      at zero entries le = omega arith
      at (suc n) [] le = absurd (omega (arith, le))
      at (suc n) (e ∷ entries) le = let h = at n entries (omega (arith, le)) in omega (arith, h)

  pub take-put : n ≤ length entries → take n (take n entries ++ last ∷ []) ≡ take n entries
  take-put le = at n entries le
    where
      at : (n : ℕ) (entries : List Entry) → n ≤ length entries → take n (take n entries ++ last ∷ []) ≡ take n entries
      at zero entries le = refl
      at (suc n) [] le = absurd (omega (arith, le))
      at (suc n) (e ∷ entries) le = ap (λ l. e ∷ l) (at n entries (omega (arith, le)))

  pub drop-put : n ≤ length entries → drop n (take n entries ++ last ∷ []) ≡ last ∷ []
  drop-put le = at n entries le
    where
      at : (n : ℕ) (entries : List Entry) → n ≤ length entries → drop n (take n entries ++ last ∷ []) ≡ last ∷ []
      at zero entries le = refl
      at (suc n) [] le = absurd (omega (arith, le))
      at (suc n) (e ∷ entries) le = at n entries (omega (arith, le))

  pub get-put : n ≤ length entries → slice_get (take n entries ++ last ∷ []) n ≡ Some last
  get-put le = at n entries le
    where
      at : (n : ℕ) (entries : List Entry) → n ≤ length entries → slice_get (take n entries ++ last ∷ []) n ≡ Some last
      at zero entries le = refl
      at (suc n) [] le = absurd (omega (arith, le))
      at (suc n) (e ∷ entries) le = at n entries (omega (arith, le))

pub put-size : (n : ℕ) (pairs left : List (Vec KeyCell × Tally)) (last : Entry) → n ≤ length pairs
    → entries_in left ≡ take n (entries_in pairs) ++ last ∷ [] → length left ≡ n + 1
put-size n pairs left last le e =
    let count = length-shown pairs n le in
    sym (length-map left entry_in) ∙ ap (λ (l : List Entry). length l) e ∙ length-append (take n (entries_in pairs)) (last ∷ [])
    ∙ ap (λ m. m + 1) count.0

-- ---- what is kept of no rows is in range

pub counted-put : (rows n width : ℕ) (key : List Datum) (entries : List Entry) → AreCounted rows entries
    → AreCounted rows (take n entries ++ empty_entry width key ∷ [])
counted-put rows zero width key entries h = ((omega arith, within-zeros rows width), tt)
counted-put rows (suc n) width key [] h = ((omega arith, within-zeros rows width), tt)
counted-put rows (suc n) width key (e ∷ entries) h = (h.0, counted-put rows n width key entries h.1)

-- ---- the first so many entries alone

module _ (n : ℕ) (pairs left : List (Vec KeyCell × Tally)) (le : n ≤ length pairs) (kept : entries_in left ≡ take n (entries_in pairs)) where
  many : length left ≡ n
  many = sym (length-map left entry_in) ∙ ap (λ (l : List Entry). length l) kept ∙ (length-shown pairs n le).0

  pub kept-shown : n ≤ length left
  kept-shown = omega (arith, many)

  pub kept-size : (size : ℕ) → length pairs ≤ size → length left ≤ size
  kept-size size fits = omega (arith, many, fits, le)

  pub kept-same : take n (entries_in left) ≡ take n (entries_in pairs)
  kept-same = ap (take n) kept ∙ twice n (entries_in pairs)
    where
      twice : (n : ℕ) (entries : List Entry) → take n (take n entries) ≡ take n entries
      twice zero entries = refl
      twice (suc n) [] = refl
      twice (suc n) (e ∷ entries) = ap (λ l. e ∷ l) (twice n entries)

  pub kept-end : (width : ℕ) → IsEnd width (drop n (entries_in left))
  kept-end width = subst (λ (l : List Entry). IsEnd width (drop n l)) (sym kept) (none n (entries_in pairs))
    where
      none : (n : ℕ) (entries : List Entry) → IsEnd width (drop n (take n entries))
      none zero entries = tt
      none (suc n) [] = tt
      none (suc n) (e ∷ entries) = none n entries

  pub kept-counted : (rows : ℕ) → AreCounted rows (entries_in pairs) → AreCounted rows (entries_in left)
  kept-counted rows h = subst (AreCounted rows) (sym kept) (first n (entries_in pairs) h)
    where
      first : (n : ℕ) (entries : List Entry) → AreCounted rows entries → AreCounted rows (take n entries)
      first zero entries h = tt
      first (suc n) [] h = tt
      first (suc n) (e ∷ entries) h = (h.0, first n entries h.1)

  pub kept-place : (i size : ℕ) (shown : List Entry) (key : List Datum) → i < n → slice_get (entry_keys (entries_in pairs)) i ≡ Some key
      → IsPlaceOf (place_at (slice_get (entries_in left) i)) size shown key
  kept-place i size shown key lt at =
      subst (λ (l : List Entry). IsPlaceOf (place_at (slice_get l i)) size shown key) (sym kept) (found n (entries_in pairs) i lt at)
    where
      found : (n : ℕ) (entries : List Entry) (i : ℕ) → i < n → slice_get (entry_keys entries) i ≡ Some key
          → IsPlaceOf (place_at (slice_get (take n entries) i)) size shown key
      found zero entries i lt at = absurd (omega (arith, lt))
      found (suc n) [] i lt at = cc
      found (suc n) (e ∷ entries) zero lt at = ap (λ o. unwrap_or o key) at
      found (suc n) (e ∷ entries) (suc i) lt at = found n entries i (omega (arith, lt)) at

  -- where a key is found among the first
  pub stays-kept : (most width : ℕ) → length pairs ≤ most → StayKept n most width pairs left
  stays-kept most width fits = record {
    shown = kept-shown;
    size = kept-size most fits;
    same = kept-same;
    end = kept-end width;
    counted = kept-counted;
  }

-- ---- what stays as it is kept

module _ (n most width : ℕ) (pairs : List (Vec KeyCell × Tally)) (le : n ≤ length pairs) where
  -- where nothing changes
  pub stays : length pairs ≤ most → IsEnd width (drop n (entries_in pairs)) → (left : List (Vec KeyCell × Tally)) → left ≡ pairs → StayKept n most width pairs left
  stays fits end left same = subst (λ (l : List (Vec KeyCell × Tally)). StayKept n most width pairs l) (sym same) (record {
    shown = le;
    size = fits;
    same = refl;
    end = end;
    counted = λ rows h. h;
  })

  -- where an entry is reserved
  pub stays-put : n < most → (key : List Datum) (left : List (Vec KeyCell × Tally)) → entries_in left ≡ take n (entries_in pairs) ++ empty_entry width key ∷ []
      → StayKept n most width pairs left
  stays-put below key left put =
      let entries = entries_in pairs in
      let last = empty_entry width key in
      let count = (length-shown pairs n le).1 in
      let many = put-size n pairs left last le put in
      record {
        shown = omega (arith, many);
        size = omega (arith, many, below);
        same = ap (take n) put ∙ take-put n entries last count;
        end = subst (IsEnd width) (sym (ap (drop n) put ∙ drop-put n entries last count)) refl;
        counted = λ rows h. subst (AreCounted rows) (sym put) (counted-put rows n width key entries h);
      }
