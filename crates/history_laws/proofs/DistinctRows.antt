-- Rows and the keys that have entries: counts, and which keys stay.
use Rattle.std.proofs.Common.{◌≡◌, ℕ, zero, suc, ◌<◌, Bool, true, false, not, cond, ltb, ◌||◌, inl, inr, List, [], ◌∷◌, ◌++◌, length, map, take, filter, refl, sym, ap, ◌∙◌, subst, arith}
use Rattle.std.specs.List.{IsDistinct, AllByRecursion}
use Rattle.std.proofs.lemmas.Bool.{cond-true, cond-false, cases_Bool, ltb-true, ltb-false}
use Rattle.std.proofs.Math.Bool.{or-true}
use Rattle.std.proofs.lemmas.List.{length-map, length-take}
use Rattle.std.proofs.lemmas.List.Elements.{filter-append}
use Rattle.std.proofs.lemmas.List.Filters.{length-filter_both}
use Rattle.trace_format.specs.Cells.{Datum}
use Rattle.hist_entries.specs.Hits.{Hit}
use Rattle.hist_entries.specs.HistEntries.{Entry, same_key, is_among}
use Rattle.hist_entries.proofs.Keys.{key-refl}
use Rattle.trace_hist.specs.Groups.{distinct, keys_of, admitted, entry_of}
use Rattle.trace_hist.proofs.DistinctKeys.{is_among-distinct}
use Rattle.trace_hist.proofs.GroupLaws.{entry_keys-of}
use Rattle.history_laws.specs.GroupedRows.{RowsAreTold, EntriesStay, EntriesFit, DroppedIsFull}

-- ---- distinct keys

-- what holds of each holds of those that a test leaves
pub all-filter : {X : Type 0} (P : X → Type 0) (p : X → Bool) (xs : List X) → AllByRecursion P xs → AllByRecursion P (filter p xs)
all-filter P p [] all = tt
all-filter P p (x ∷ xs) all =
    elim (p x) as (λ b. AllByRecursion P (cond b (x ∷ filter p xs) (filter p xs))) [
      | true ↦ (all.0, all-filter P p xs all.1)
      | false ↦ all-filter P p xs all.1
    ]

pub all-take : {X : Type 0} (P : X → Type 0) (n : ℕ) (xs : List X) → AllByRecursion P xs → AllByRecursion P (take n xs)
all-take P zero xs all = tt
all-take P (suc n) [] all = tt
all-take P (suc n) (x ∷ xs) all = (all.0, all-take P n xs all.1)

-- each that a test leaves passes it
pub filter-passes : {X : Type 0} (p : X → Bool) (xs : List X) → AllByRecursion (λ x. p x ≡ true) (filter p xs)
filter-passes p [] = tt
filter-passes p (x ∷ xs) =
    elim (cases_Bool (p x)) [
      | inl passed ↦ subst (AllByRecursion (λ x. p x ≡ true)) (sym (cond-true (p x) (x ∷ filter p xs) (filter p xs) passed)) (passed, filter-passes p xs)
      | inr other ↦ subst (AllByRecursion (λ x. p x ≡ true)) (sym (cond-false (p x) (x ∷ filter p xs) (filter p xs) other)) (filter-passes p xs)
    ]

pub distinct-filter : {X : Type 0} (e : X → X → Bool) (p : X → Bool) (xs : List X) → IsDistinct e xs → IsDistinct e (filter p xs)
unfolding IsDistinct
distinct-filter e p [] apart = tt
distinct-filter e p (x ∷ xs) apart =
    elim (p x) as (λ b. IsDistinct e (cond b (x ∷ filter p xs) (filter p xs))) [
      | true ↦ (all-filter (λ y. e x y ≡ false) p xs apart.0, distinct-filter e p xs apart.1)
      | false ↦ distinct-filter e p xs apart.1
    ]

pub distinct-take : {X : Type 0} (e : X → X → Bool) (n : ℕ) (xs : List X) → IsDistinct e xs → IsDistinct e (take n xs)
unfolding IsDistinct
distinct-take e zero xs apart = tt
distinct-take e (suc n) [] apart = tt
distinct-take e (suc n) (x ∷ xs) apart = (all-take (λ y. e x y ≡ false) n xs apart.0, distinct-take e n xs apart.1)

unlike : (key : List Datum) (keys : List (List Datum)) → AllByRecursion (λ other. not (same_key key other) ≡ true) keys → AllByRecursion (λ other. same_key key other ≡ false) keys
unlike key [] all = tt
unlike key (other ∷ keys) all =
    let apart : same_key key other ≡ false = elim (cases_Bool (same_key key other)) [
      | inr apart ↦ apart
      | inl alike ↦ let clash = sym (ap not alike) ∙ all.0 in cc
    ] in
    (apart, unlike key keys all.1)

-- the distinct ones of some keys are apart
pub distinct-apart : (keys : List (List Datum)) → IsDistinct same_key (distinct keys)
unfolding IsDistinct
distinct-apart [] = tt
distinct-apart (key ∷ keys) =
    let p : List Datum → Bool = λ other. not (same_key key other) in
    (unlike key (filter p (distinct keys)) (filter-passes p (distinct keys)), distinct-filter same_key p (distinct keys) (distinct-apart keys))

-- and so are the keys that have entries
pub admitted-apart : (size : ℕ) (rows : List Hit) → IsDistinct same_key (admitted size rows)
admitted-apart size rows = distinct-take same_key size (distinct (keys_of rows)) (distinct-apart (keys_of rows))

-- ---- keys that stay

-- keys that follow come last
record Follows (before all : List (List Datum)) : Type 0 where
  rest : List (List Datum)
  is : all ≡ before ++ rest

distinct-follow : (keys more : List (List Datum)) → Follows (distinct keys) (distinct (keys ++ more))
distinct-follow [] more = record { rest = distinct more; is = refl }
distinct-follow (key ∷ keys) more =
    let p : List Datum → Bool = λ other. not (same_key key other) in
    let follow = distinct-follow keys more in
    record {
      rest = filter p follow.rest;
      is = ap (λ l. key ∷ filter p l) follow.is ∙ ap (λ l. key ∷ l) (filter-append p (distinct keys) follow.rest);
    }

keys-append : (rows more : List Hit) → keys_of (rows ++ more) ≡ keys_of rows ++ keys_of more
keys-append [] more = refl
keys-append (row ∷ rows) more = ap (λ l. row.key ∷ l) (keys-append rows more)

take-front : {X : Type 0} (n : ℕ) (xs ys : List X) → take (length (take n xs)) (take n (xs ++ ys)) ≡ take n xs
take-front zero xs ys = refl
take-front (suc n) [] ys = refl
take-front (suc n) (x ∷ xs) ys = ap (λ l. x ∷ l) (take-front n xs ys)

pub entries_stay : EntriesStay
entries_stay size width rows more =
    let before = admitted size rows in
    let follow = distinct-follow (keys_of rows) (keys_of more) in
    let after : admitted size (rows ++ more) ≡ take size (distinct (keys_of rows) ++ follow.rest) = ap (λ keys. take size (distinct keys)) (keys-append rows more) ∙ ap (take size) follow.is in
    ap (λ n. take n (map (λ (e : Entry). e.key) (map (entry_of width (rows ++ more)) (admitted size (rows ++ more))))) (length-map before (entry_of width rows))
    ∙ ap (take (length before)) (entry_keys-of width (rows ++ more) (admitted size (rows ++ more)) ∙ after)
    ∙ take-front size (distinct (keys_of rows)) follow.rest
    ∙ sym (entry_keys-of width rows before)

-- ---- counts

pub rows_are_told : RowsAreTold
rows_are_told size width rows = length-filter_both (λ (row : Hit). is_among (admitted size rows) row.key) (λ row. not (is_among (admitted size rows) row.key)) (λ row. refl) rows

pub entries_fit : EntriesFit
entries_fit size width rows = omega (arith, length-map (admitted size rows) (entry_of width rows), length-take size (distinct (keys_of rows)))

take-few : {X : Type 0} (n : ℕ) (xs : List X) → length (take n xs) < n → take n xs ≡ xs
take-few zero xs h = absurd (omega (arith, h))
take-few (suc n) [] h = refl
take-few (suc n) (x ∷ xs) h = ap (λ l. x ∷ l) (take-few n xs (omega (arith, h)))

-- each row's key is one of the rows' keys
each-weaker : {X : Type 0} (P Q : X → Type 0) → ((x : X) → P x → Q x) → (xs : List X) → AllByRecursion P xs → AllByRecursion Q xs
each-weaker P Q f [] all = tt
each-weaker P Q f (x ∷ xs) all = (f x all.0, each-weaker P Q f xs all.1)

each-among : (rows : List Hit) → AllByRecursion (λ (row : Hit). is_among (keys_of rows) row.key ≡ true) rows
each-among [] = tt
each-among (row ∷ rows) = (
  ap (λ b. b || is_among (keys_of rows) row.key) (key-refl row.key),
  each-weaker (λ (other : Hit). is_among (keys_of rows) other.key ≡ true) (λ (other : Hit). is_among (keys_of (row ∷ rows)) other.key ≡ true)
      (λ other known. ap (λ b. same_key other.key row.key || b) known ∙ or-true (same_key other.key row.key)) rows (each-among rows),
)

-- so where all have entries none is dropped
none-dropped : (keys : List (List Datum)) (rows : List Hit) → AllByRecursion (λ (row : Hit). is_among keys row.key ≡ true) rows
    → filter (λ (row : Hit). not (is_among keys row.key)) rows ≡ []
none-dropped keys [] all = refl
none-dropped keys (row ∷ rows) all = cond-false _ _ _ (ap not all.0) ∙ none-dropped keys rows all.1

pub dropped_is_full : DroppedIsFull
dropped_is_full size width rows some =
    let keys = admitted size rows in
    let fit = entries_fit size width rows in
    let many = length-map keys (entry_of width rows) in
    elim (cases_Bool (ltb (length keys) size)) [
      | inr full ↦ omega (arith, ltb-false _ _ full, fit, many)
      | inl room ↦
          let all : keys ≡ distinct (keys_of rows) = take-few size (distinct (keys_of rows)) (ltb-true _ _ room) in
          let known : AllByRecursion (λ (row : Hit). is_among keys row.key ≡ true) rows =
          each-weaker (λ (row : Hit). is_among (keys_of rows) row.key ≡ true) (λ (row : Hit). is_among keys row.key ≡ true)
          (λ row among. ap (λ l. is_among l row.key) all ∙ is_among-distinct (keys_of rows) row.key ∙ among) rows (each-among rows) in
          absurd (omega (arith, some, ap length (none-dropped keys rows known)))
    ]
