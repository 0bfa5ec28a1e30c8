-- Rows and the keys that have entries: what is added up of them, entry by entry and row by row.
use Rattle.std.proofs.Common.{◌≡◌, ℕ, zero, suc, ◌+◌, ◌<◌, true, false, cond, ◌||◌, inl, inr, List, [], ◌∷◌, length, map, filter, replicate, ℤ, pos, ◌+ℤ◌, refl, sym, ap, ◌∙◌, arith}
use Rattle.std.specs.List.{IsDistinct, AllByRecursion, sum_by}
use Rattle.std.proofs.Math.IntN.{+ℤ_idl, +ℤ_idr, +ℤ_assoc, +ℤ_comm}
use Rattle.std.proofs.lemmas.Bool.{cond-true, cond-false, cases_Bool}
use Rattle.std.proofs.lemmas.List.Sums.{sum_by-cons}
use Rattle.trace_format.specs.Cells.{Datum}
use Rattle.hist_entries.specs.Hits.{Hit}
use Rattle.hist_entries.specs.HistEntries.{Entry, same_key, is_among, added}
use Rattle.hist_entries.specs.PrintOrder.{sum_at}
use Rattle.hist_entries.proofs.Keys.{key_decided, key-refl, not_same}
use Rattle.trace_hist.specs.Groups.{admitted, with_key, summed, entry_of}
use Rattle.trace_hist.proofs.GroupLaws.{entry_keys-of}
use Rattle.history_laws.specs.GroupedRows.{total, total_of, HitcountsAreHits, SumsAreOfTheirRows, SumsAreOfCountedRows}
use Rattle.history_laws.proofs.DistinctRows.{admitted-apart}

-- ---- what is added up by keys that differ is added up by rows

-- a key that is apart from others is none of them
none-among : (key : List Datum) (keys : List (List Datum)) → AllByRecursion (λ other. same_key key other ≡ false) keys → is_among keys key ≡ false
none-among key [] apart = refl
none-among key (other ∷ keys) apart = ap (λ b. b || is_among keys key) apart.0 ∙ none-among key keys apart.1

record CanBeAdded {M : Type 0} (nothing : M) (plus : M → M → M) : Type 0 where
  left : (a : M) → plus nothing a ≡ a
  swaps : (a b c : M) → plus a (plus b c) ≡ plus b (plus a c)
  groups : (a b c : M) → plus (plus a b) c ≡ plus a (plus b c)

module _ {M : Type 0} (nothing : M) (plus : M → M → M) (adds : CanBeAdded nothing plus) (of_row : Hit → M) where
  abbrev of_rows : List Hit → M
  of_rows [] = nothing
  of_rows (row ∷ rows) = plus (of_row row) (of_rows rows)

  abbrev of_keys : List (List Datum) → List Hit → M
  of_keys [] rows = nothing
  of_keys (key ∷ keys) rows = plus (of_rows (with_key key rows)) (of_keys keys rows)

  keys-none : (keys : List (List Datum)) → of_keys keys [] ≡ nothing
  keys-none [] = refl
  keys-none (key ∷ keys) = adds.left (of_keys keys []) ∙ keys-none keys

  -- a row more counts for its key alone
  keys-row : (keys : List (List Datum)) → IsDistinct same_key keys → (row : Hit) (rows : List Hit)
      → of_keys keys (row ∷ rows) ≡ plus (cond (is_among keys row.key) (of_row row) nothing) (of_keys keys rows)
  unfolding IsDistinct
  keys-row [] apart row rows = sym (adds.left nothing)
  keys-row (key ∷ keys) apart row rows =
      let many = of_rows (with_key key rows) in
      let rest = keys-row keys apart.1 row rows in
      elim (cases_Bool (same_key key row.key)) [
        | inl alike ↦
            let is : key ≡ row.key = (key_decided key row.key).0 alike in
            let new : is_among keys row.key ≡ false = ap (is_among keys) (sym is) ∙ none-among key keys apart.0 in
            let known : is_among (key ∷ keys) row.key ≡ true = ap (λ b. b || is_among keys row.key) (ap (same_key row.key) is ∙ key-refl row.key) in
            ap (λ l. plus (of_rows l) (of_keys keys (row ∷ rows))) (cond-true _ (row ∷ with_key key rows) (with_key key rows) alike)
            ∙ ap (plus (plus (of_row row) many)) (rest ∙ ap (λ b. plus (cond b (of_row row) nothing) (of_keys keys rows)) new ∙ adds.left (of_keys keys rows))
            ∙ adds.groups (of_row row) many (of_keys keys rows)
            ∙ ap (λ b. plus (cond b (of_row row) nothing) (plus many (of_keys keys rows))) (sym known)
        | inr other ↦
            let same : is_among (key ∷ keys) row.key ≡ is_among keys row.key = ap (λ b. b || is_among keys row.key) (not_same key row.key other) in
            ap (λ l. plus (of_rows l) (of_keys keys (row ∷ rows))) (cond-false _ (row ∷ with_key key rows) (with_key key rows) other)
            ∙ ap (plus many) rest
            ∙ adds.swaps many (cond (is_among keys row.key) (of_row row) nothing) (of_keys keys rows)
            ∙ ap (λ b. plus (cond b (of_row row) nothing) (plus many (of_keys keys rows))) (sym same)
      ]

  keys-are : (keys : List (List Datum)) → IsDistinct same_key keys → (rows : List Hit)
      → of_keys keys rows ≡ of_rows (filter (λ (row : Hit). is_among keys row.key) rows)
  keys-are keys apart [] = keys-none keys
  keys-are keys apart (row ∷ rows) =
      let rest = keys-are keys apart rows in
      let left = filter (λ (r : Hit). is_among keys r.key) rows in
      keys-row keys apart row rows ∙ ap (plus (cond (is_among keys row.key) (of_row row) nothing)) rest
      ∙ elim (cases_Bool (is_among keys row.key)) [
        | inl known ↦
            ap (λ b. plus (cond b (of_row row) nothing) (of_rows left)) known ∙ ap of_rows (sym (cond-true _ (row ∷ left) left known))
        | inr new ↦
            ap (λ b. plus (cond b (of_row row) nothing) (of_rows left)) new ∙ adds.left (of_rows left) ∙ ap of_rows (sym (cond-false _ (row ∷ left) left new))
      ]

-- ---- hitcounts

numbers_add : CanBeAdded {M = ℕ} 0 (λ m n. m + n)
numbers_add = record {
  left = λ a. omega arith;
  swaps = λ a b c. omega arith;
  groups = λ a b c. omega arith;
}

one : Hit → ℕ
one row = 1

many-are : (rows : List Hit) → of_rows 0 (λ m n. m + n) numbers_add one rows ≡ length rows
unfolding one
many-are [] = refl
many-are (row ∷ rows) = omega (arith, many-are rows)

hitcounts-are : (width : ℕ) (rows : List Hit) (keys : List (List Datum))
    → sum_by (λ (entry : Entry). entry.hitcount) (map (entry_of width rows) keys) ≡ of_keys 0 (λ m n. m + n) numbers_add one keys rows
hitcounts-are width rows [] = refl
hitcounts-are width rows (key ∷ keys) =
    sum_by-cons (λ (entry : Entry). entry.hitcount) (entry_of width rows key) (map (entry_of width rows) keys)
    ∙ ap (λ n. length (with_key key rows) + n) (hitcounts-are width rows keys)
    ∙ ap (λ n. n + of_keys 0 (λ m n. m + n) numbers_add one keys rows) (sym (many-are (with_key key rows)))

pub hitcounts_are_hits : HitcountsAreHits
hitcounts_are_hits size width rows =
    let keys = admitted size rows in
    hitcounts-are width rows keys ∙ keys-are 0 (λ m n. m + n) numbers_add one keys (admitted-apart size rows) rows
    ∙ many-are (filter (λ (row : Hit). is_among keys row.key) rows)

-- ---- sums

sum-added : (sums numbers : List ℤ) (index : ℕ) → index < length sums → sum_at (added sums numbers) index ≡ sum_at sums index +ℤ sum_at numbers index
sum-added [] numbers index inside = absurd (omega (arith, inside))
sum-added (m ∷ ms) [] index inside = sym (+ℤ_idr (sum_at (m ∷ ms) index))
sum-added (m ∷ ms) (n ∷ ns) zero inside = refl
sum-added (m ∷ ms) (n ∷ ns) (suc index) inside = sum-added ms ns index (omega (arith, inside))

length-added : (sums numbers : List ℤ) → length (added sums numbers) ≡ length sums
length-added [] numbers = refl
length-added (m ∷ ms) [] = refl
length-added (m ∷ ms) (n ∷ ns) = ap suc (length-added ms ns)

sum-summed : (sums : List ℤ) (rows : List Hit) (index : ℕ) → index < length sums → sum_at (summed sums rows) index ≡ sum_at sums index +ℤ total_of index rows
sum-summed sums [] index inside = sym (+ℤ_idr (sum_at sums index))
sum-summed sums (row ∷ rows) index inside =
    sum-summed (added sums row.numbers) rows index (omega (arith, inside, length-added sums row.numbers))
    ∙ ap (λ n. n +ℤ total_of index rows) (sum-added sums row.numbers index inside)
    ∙ +ℤ_assoc (sum_at sums index) (sum_at row.numbers index) (total_of index rows)

sum-none : (width index : ℕ) → sum_at (replicate width (pos 0)) index ≡ pos 0
sum-none zero index = refl
sum-none (suc width) zero = refl
sum-none (suc width) (suc index) = sum-none width index

long : (width : ℕ) → length (replicate width (pos 0)) ≡ width
long zero = refl
long (suc width) = ap suc (long width)

sum-is : (width : ℕ) (rows : List Hit) (key : List Datum) (index : ℕ) → index < width
    → sum_at (entry_of width rows key).sums index ≡ total_of index (with_key key rows)
sum-is width rows key index inside =
    sum-summed (replicate width (pos 0)) (with_key key rows) index (omega (arith, inside, long width))
    ∙ ap (λ n. n +ℤ total_of index (with_key key rows)) (sum-none width index) ∙ +ℤ_idl (total_of index (with_key key rows))

sums-are : (width : ℕ) (rows : List Hit) (index : ℕ) → index < width → (keys : List (List Datum))
    → map (λ (entry : Entry). sum_at entry.sums index) (map (entry_of width rows) keys) ≡ map (λ key. total_of index (with_key key rows)) keys
sums-are width rows index inside [] = refl
sums-are width rows index inside (key ∷ keys) =
    ap (λ n. n ∷ map (λ (entry : Entry). sum_at entry.sums index) (map (entry_of width rows) keys)) (sum-is width rows key index inside)
    ∙ ap (λ l. total_of index (with_key key rows) ∷ l) (sums-are width rows index inside keys)

pub sums_are_of_their_rows : SumsAreOfTheirRows
sums_are_of_their_rows size width index rows inside =
    sums-are width rows index inside (admitted size rows)
    ∙ ap (map (λ key. total_of index (with_key key rows))) (sym (entry_keys-of width rows (admitted size rows)))

integers_add : CanBeAdded {M = ℤ} (pos 0) (λ m n. m +ℤ n)
integers_add = record {
  left = λ a. +ℤ_idl a;
  swaps = λ a b c. sym (+ℤ_assoc a b c) ∙ ap (λ n. n +ℤ c) (+ℤ_comm a b) ∙ +ℤ_assoc b a c;
  groups = λ a b c. +ℤ_assoc a b c;
}

totals-are : (index : ℕ) (rows : List Hit) → of_rows (pos 0) (λ m n. m +ℤ n) integers_add (λ row. sum_at row.numbers index) rows ≡ total_of index rows
totals-are index [] = refl
totals-are index (row ∷ rows) = ap (λ n. sum_at row.numbers index +ℤ n) (totals-are index rows)

keys-total : (index : ℕ) (rows : List Hit) (keys : List (List Datum))
    → total (map (λ key. total_of index (with_key key rows)) keys) ≡ of_keys (pos 0) (λ m n. m +ℤ n) integers_add (λ row. sum_at row.numbers index) keys rows
keys-total index rows [] = refl
keys-total index rows (key ∷ keys) =
    ap (λ n. total_of index (with_key key rows) +ℤ n) (keys-total index rows keys)
    ∙ ap (λ n. n +ℤ of_keys (pos 0) (λ m n. m +ℤ n) integers_add (λ row. sum_at row.numbers index) keys rows) (sym (totals-are index (with_key key rows)))

pub sums_are_of_counted_rows : SumsAreOfCountedRows
sums_are_of_counted_rows size width index rows inside =
    let keys = admitted size rows in
    ap total (sums-are width rows index inside keys) ∙ keys-total index rows keys
    ∙ keys-are (pos 0) (λ m n. m +ℤ n) integers_add (λ row. sum_at row.numbers index) keys (admitted-apart size rows) rows
    ∙ totals-are index (filter (λ (row : Hit). is_among keys row.key) rows)
    ∙ ap (λ l. total_of index (filter (λ (row : Hit). is_among l row.key) rows)) (sym (entry_keys-of width rows keys))
