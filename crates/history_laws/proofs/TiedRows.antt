-- In which order entries are printed that tie.
use Rattle.std.proofs.Common.{◌≡◌, ℕ, zero, suc, ◌<◌, Bool, true, false, not, ◌&&◌, cond, inl, inr, List, [], ◌∷◌, length, get_or, map, take, filter, refl, sym, ap, ◌∙◌, subst, arith}
use Rattle.std.specs.List.{All, AllByRecursion}
use Rattle.std.specs.List.Sorted.{ties}
use Rattle.std.specs.declared.cmp.Ordering.{Ordering}
use Rattle.std.specs.declared.cmp.Ordering.TheVariants.{Less, Equal, Greater}
use Rattle.std.specs.Ordering.{is_lt, ordering_reverse}
use Rattle.std.proofs.lemmas.Bool.{cond-true, cond-false, cases_Bool}
use Rattle.std.proofs.lemmas.List.Sorted.{All-permutation}
use Rattle.trace_format.specs.Cells.{Datum}
use Rattle.trace_format.specs.declared.sort_rule.SortRule.{SortRule}
use Rattle.hist_entries.specs.Hits.{Hit}
use Rattle.hist_entries.specs.HistEntries.{Entry, same_key}
use Rattle.hist_entries.specs.PrintOrder.{entry_cmp, comes_before, printed}
use Rattle.hist_entries.proofs.Keys.{key-refl, not_same}
use Rattle.hist_entries.proofs.Printing.{entry_cmp_total}
use Rattle.hist_entries.proofs.PrintLaws.{printed_is_in_print_order}
use Rattle.trace_hist.specs.Groups.{distinct, keys_of, admitted, entry_of, group}
use Rattle.history_laws.specs.GroupedRows.{rows_before, TiesAreByFirstRow}
use Rattle.history_laws.proofs.DistinctRows.{all-filter, all-take, filter-passes}

-- ---- pairs of a list

-- this is of a test that leaves both elements of a pair
module _ {X : Type 0} (R : X → X → Type 0) where
  abbrev Each : X → List X → Type 0
  Each x xs = AllByRecursion (R x) xs

  abbrev Pairs : List X → Type 0
  Pairs [] = Unit {0}
  Pairs (x ∷ xs) = Each x xs × Pairs xs

  pairs-take : (n : ℕ) (xs : List X) → Pairs xs → Pairs (take n xs)
  pairs-take zero xs pairs = tt
  pairs-take (suc n) [] pairs = tt
  pairs-take (suc n) (x ∷ xs) pairs = (all-take (R x) n xs pairs.0, pairs-take n xs pairs.1)

  pairs-filter : (p : X → Bool) (xs : List X) → Pairs xs → Pairs (filter p xs)
  pairs-filter p [] pairs = tt
  pairs-filter p (x ∷ xs) pairs =
      elim (p x) as (λ b. Pairs (cond b (x ∷ filter p xs) (filter p xs))) [
        | true ↦ (all-filter (R x) p xs pairs.0, pairs-filter p xs pairs.1)
        | false ↦ pairs-filter p xs pairs.1
      ]

  -- what holds of each that a test leaves
  left-each : (P : X → Type 0) (p : X → Bool) (xs : List X) → AllByRecursion P (filter p xs) → AllByRecursion (λ x. p x ≡ true → P x) xs
  left-each P p [] all = tt
  left-each P p (x ∷ xs) all =
      elim (cases_Bool (p x)) [
        | inl passed ↦
            let both = subst (AllByRecursion P) (cond-true (p x) (x ∷ filter p xs) (filter p xs) passed) all in
            (λ h. both.0, left-each P p xs both.1)
        | inr other ↦
            let rest = subst (AllByRecursion P) (cond-false (p x) (x ∷ filter p xs) (filter p xs) other) all in
            (λ h. let clash = sym other ∙ h in cc, left-each P p xs rest)
      ]

  -- what holds of each pair that a test leaves
  left-pairs : (p : X → Bool) (xs : List X) → Pairs (filter p xs) → (i j : ℕ) (d : X) → i < j → j < length xs
      → p (get_or xs i d) ≡ true → p (get_or xs j d) ≡ true → R (get_or xs i d) (get_or xs j d)
  left-pairs p [] pairs i j d l k = absurd (omega (arith, k))
  left-pairs p (x ∷ xs) pairs zero zero d l k = absurd (omega (arith, l))
  left-pairs p (x ∷ xs) pairs zero (suc j) d l k = λ passed also.
      let both = subst Pairs (cond-true (p x) (x ∷ filter p xs) (filter p xs) passed) pairs in
      at xs (left-each (R x) p xs both.0) j (omega (arith, k)) also
    where
      at : (ys : List X) → AllByRecursion (λ y. p y ≡ true → R x y) ys → (j : ℕ) → j < length ys → p (get_or ys j d) ≡ true → R x (get_or ys j d)
      at [] all j l = absurd (omega (arith, l))
      at (y ∷ ys) all zero l = all.0
      at (y ∷ ys) all (suc j) l = at ys all.1 j (omega (arith, l))
  left-pairs p (x ∷ xs) pairs (suc i) zero d l k = absurd (omega (arith, l))
  left-pairs p (x ∷ xs) pairs (suc i) (suc j) d l k =
      let rest : Pairs (filter p xs) = elim (cases_Bool (p x)) [
        | inl passed ↦ (subst Pairs (cond-true (p x) (x ∷ filter p xs) (filter p xs) passed) pairs).1
        | inr other ↦ subst Pairs (cond-false (p x) (x ∷ filter p xs) (filter p xs) other) pairs
      ] in
      left-pairs p xs rest i j d (omega (arith, l)) (omega (arith, k))

-- pairs by another relation
module _ {X : Type 0} (P : X → Type 0) (R S : X → X → Type 0) (weaker : (x y : X) → P x → P y → R x y → S x y) where
  each-also : (x : X) → P x → (xs : List X) → AllByRecursion P xs → AllByRecursion (R x) xs → AllByRecursion (S x) xs
  each-also x is [] all each = tt
  each-also x is (y ∷ xs) all each = (weaker x y is all.0 each.0, each-also x is xs all.1 each.1)

  pairs-also : (xs : List X) → AllByRecursion P xs → Pairs R xs → Pairs S xs
  pairs-also [] all pairs = tt
  pairs-also (x ∷ xs) all pairs = (each-also x all.0 xs all.1 pairs.0, pairs-also xs all.1 pairs.1)

each-map : {X Y : Type 0} (P : Y → Type 0) (f : X → Y) (xs : List X) → AllByRecursion (λ x. P (f x)) xs → AllByRecursion P (map f xs)
each-map P f [] all = tt
each-map P f (x ∷ xs) all = (all.0, each-map P f xs all.1)

pairs-map : {X Y : Type 0} (R : Y → Y → Type 0) (f : X → Y) (xs : List X) → Pairs (λ x y. R (f x) (f y)) xs → Pairs R (map f xs)
pairs-map R f [] pairs = tt
pairs-map R f (x ∷ xs) pairs = (each-map (R (f x)) f xs pairs.0, pairs-map R f xs pairs.1)

-- ---- distinct keys are in order of first occurrence

-- how many keys come before the first that is this one
abbrev before : List Datum → List (List Datum) → ℕ
before key [] = 0
before key (other ∷ keys) = cond (same_key key other) 0 (suc (before key keys))

rows-before : (key : List Datum) (rows : List Hit) → before key (keys_of rows) ≡ rows_before key rows
rows-before key [] = refl
rows-before key (row ∷ rows) = ap (λ n. cond (same_key key row.key) 0 (suc n)) (rows-before key rows)

abbrev IsEarlier : List (List Datum) → List Datum → List Datum → Type 0
IsEarlier keys key other = before key keys < before other keys

apart-from : (key other : List Datum) → not (same_key key other) ≡ true → same_key other key ≡ false
apart-from key other passed =
    elim (cases_Bool (same_key key other)) [
      | inr apart ↦ not_same key other apart
      | inl alike ↦ let clash = sym (ap not alike) ∙ passed in cc
    ]

later : (key : List Datum) (keys : List (List Datum)) (other : List Datum) → not (same_key key other) ≡ true
    → before other (key ∷ keys) ≡ suc (before other keys)
later key keys other passed = cond-false (same_key other key) 0 (suc (before other keys)) (apart-from key other passed)

first-of : (key : List Datum) (keys others : List (List Datum)) → AllByRecursion (λ other. not (same_key key other) ≡ true) others
    → AllByRecursion (IsEarlier (key ∷ keys) key) others
first-of key keys [] all = tt
first-of key keys (other ∷ others) all =
    let now : before key (key ∷ keys) ≡ 0 = cond-true (same_key key key) 0 (suc (before key keys)) (key-refl key) in
    (omega (arith, now, later key keys other all.0), first-of key keys others all.1)

distinct-rises : (keys : List (List Datum)) → Pairs (IsEarlier keys) (distinct keys)
distinct-rises [] = tt
distinct-rises (key ∷ keys) =
    let p : List Datum → Bool = λ other. not (same_key key other) in
    let passed = filter-passes p (distinct keys) in (
      first-of key keys (filter p (distinct keys)) passed,
      pairs-also (λ other. p other ≡ true) (IsEarlier keys) (IsEarlier (key ∷ keys))
          (λ a b first second is. omega (arith, later key keys a first, later key keys b second, is)) (filter p (distinct keys)) passed
          (pairs-filter (IsEarlier keys) p (distinct keys) (distinct-rises keys)),
    )

-- and so are entries
abbrev IsFirstOf : List Hit → Entry → Entry → Type 0
IsFirstOf rows entry other = rows_before entry.key rows < rows_before other.key rows

all-true : {X : Type 0} (xs : List X) → AllByRecursion (λ x. Unit {0}) xs
all-true [] = tt
all-true (x ∷ xs) = (tt, all-true xs)

entries-rise : (size width : ℕ) (rows : List Hit) → Pairs (IsFirstOf rows) (group size width rows).entries
entries-rise size width rows =
    let keys = admitted size rows in
    pairs-map (IsFirstOf rows) (entry_of width rows) keys
    (pairs-also (λ key. Unit {0}) (IsEarlier (keys_of rows)) (λ key other. rows_before key rows < rows_before other rows)
    (λ a b _ _ is. omega (arith, is, rows-before a rows, rows-before b rows)) keys (all-true keys)
    (pairs-take (IsEarlier (keys_of rows)) size (distinct (keys_of rows)) (distinct-rises (keys_of rows))))

-- ---- ties

is-equal : (o : Ordering) → o ≡ ordering_reverse o → o ≡ Equal
is-equal Less e = absurd (let clash : Less ≡ Greater = e in cc)
is-equal Equal e = refl
is-equal Greater e = absurd (let clash : Greater ≡ Less = e in cc)

tie-of : (rules : List SortRule) (entry other : Entry) → entry_cmp rules entry other ≡ Equal → ties (comes_before rules) entry other ≡ true
tie-of rules entry other equal =
    let back : entry_cmp rules other entry ≡ Equal = (entry_cmp_total rules).antisymm other entry ∙ ap ordering_reverse equal in
    ap (λ o. not (is_lt o) && not (is_lt (entry_cmp rules other entry))) equal ∙ ap (λ o. not false && not (is_lt o)) back

pub ties_are_by_first_row : TiesAreByFirstRow
ties_are_by_first_row rules size width rows = λ i j d l k equal.
    let entries = (group size width rows).entries in
    let shown = printed rules entries in
    let order = printed_is_in_print_order rules entries in
    let entry = get_or shown i d in
    let p : Entry → Bool = ties (comes_before rules) entry in
    let stays : Entry → Type 0 = λ e. filter (ties (comes_before rules) e) shown ≡ filter (ties (comes_before rules) e) entries in
    let stable : All stays shown = All-permutation stays entries shown order.permutation order.stable in
    let same = stable i d (omega (arith, l, k)) in
    left-pairs (IsFirstOf rows) p shown (subst (Pairs (IsFirstOf rows)) (sym same) (pairs-filter (IsFirstOf rows) p entries (entries-rise size width rows)))
    i j d l k (tie-of rules entry entry (is-equal (entry_cmp rules entry entry) ((entry_cmp_total rules).antisymm entry entry)))
    (tie-of rules entry (get_or shown j d) equal)
