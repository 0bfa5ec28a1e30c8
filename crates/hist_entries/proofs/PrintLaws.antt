-- What the print order is: entries put in one by one are sorted and stable, and there is one such list.
use Rattle.std.proofs.Common.{◌≡◌, ℕ, zero, suc, ◌<◌, ◌≤◌, Bool, true, false, not, ◌&&◌, cond, inl, inr, List, [], ◌∷◌, length, get_or, filter, refl, sym, ap, ◌∙◌, subst, arith, add-one}
use Rattle.std.specs.Cmp.{IsStrictWeakOrder}
use Rattle.std.specs.List.{All}
use Rattle.std.specs.List.Sorted.{IsPermutation, IsSortedBy, ties}
use Rattle.std.proofs.lemmas.Bool.{cond-true, cond-false, cases_Bool}
use Rattle.std.proofs.lemmas.List.Elements.{All-head, All-tail, All-weaker}
use Rattle.std.proofs.lemmas.List.Sorted.{IsPermutation-refl, IsPermutation-cons, IsPermutation-trans, IsPermutation-middle, All-permutation, sorted_far, ranks_by}
use Rattle.trace_format.specs.declared.sort_rule.SortRule.{SortRule}
use Rattle.hist_entries.specs.HistEntries.{Entry}
use Rattle.hist_entries.specs.PrintOrder.{comes_before, before_later, printed, IsPrintOrder}
use Rattle.hist_entries.specs.Laws.{PrintedIsInPrintOrder, OnePrintOrder}
use Rattle.hist_entries.proofs.Printing.{entry_cmp_total}

-- ---- the order by a test, of elements of any type

abbrev put : {X : Type 0} → (X → X → Bool) → X → List X → List X
put lt x [] = x ∷ []
put lt x (y ∷ ys) = cond (lt y x) (y ∷ put lt x ys) (x ∷ y ∷ ys)

abbrev ordered : {X : Type 0} → (X → X → Bool) → List X → List X
ordered lt [] = []
ordered lt (x ∷ xs) = put lt x (ordered lt xs)

neither : (a b : Bool) → not a && not b ≡ true → (a ≡ false) × (b ≡ false)
neither true b h = cc
neither false true h = cc
neither false false h = (refl, refl)

filter-kept : {X : Type 0} (p : X → Bool) (y : X) (ys : List X) → p y ≡ true → filter p (y ∷ ys) ≡ y ∷ filter p ys
filter-kept p y ys h = cond-true _ _ _ h

filter-dropped : {X : Type 0} (p : X → Bool) (y : X) (ys : List X) → p y ≡ false → filter p (y ∷ ys) ≡ filter p ys
filter-dropped p y ys h = cond-false _ _ _ h

-- no element of the list is before x
abbrev NoneBefore : {X : Type 0} → (X → X → Bool) → X → List X → Type 0
NoneBefore lt x [] = Unit {0}
NoneBefore lt x (y ∷ ys) = (lt y x ≡ false) × NoneBefore lt x ys

abbrev Rises : {X : Type 0} → (X → X → Bool) → List X → Type 0
Rises lt [] = Unit {0}
Rises lt (y ∷ ys) = NoneBefore lt y ys × Rises lt ys

-- elements that tie with x are in the same order in both lists
abbrev Agree : {X : Type 0} → (X → X → Bool) → List X → List X → X → Type 0
Agree lt ys zs x = filter (ties lt x) ys ≡ filter (ties lt x) zs

module _ {X : Type 0} (lt : X → X → Bool) (order : IsStrictWeakOrder lt) where
  tied : (x y : X) → ties lt x y ≡ true → (lt x y ≡ false) × (lt y x ≡ false)
  tied x y h = neither (lt x y) (lt y x) h

  ties_from : (x y : X) → lt x y ≡ false → lt y x ≡ false → ties lt x y ≡ true
  ties_from x y a b = ap (λ t. not t && not (lt y x)) a ∙ ap (λ t. not false && not t) b

  not_before_itself : (x : X) → lt x x ≡ false
  not_before_itself x = elim (cases_Bool (lt x x)) [
    | inr apart ↦ apart
    | inl before ↦ order.one_way x x before
  ]

  ties-refl : (x : X) → ties lt x x ≡ true
  ties-refl x = ties_from x x (not_before_itself x) (not_before_itself x)

  -- ---- putting elements in one by one

  IsPermutation-put : (x : X) (ys : List X) → IsPermutation (x ∷ ys) (put lt x ys)
  IsPermutation-put x [] = IsPermutation-refl (x ∷ [])
  IsPermutation-put x (y ∷ ys) =
      elim (lt y x) as (λ (b : Bool). IsPermutation (x ∷ y ∷ ys) (cond b (y ∷ put lt x ys) (x ∷ y ∷ ys))) [
        | true ↦ IsPermutation-trans (x ∷ y ∷ ys) (y ∷ x ∷ ys) (y ∷ put lt x ys) (IsPermutation-middle (x ∷ []) y ys)
            (IsPermutation-cons y (x ∷ ys) (put lt x ys) (IsPermutation-put x ys))
        | false ↦ IsPermutation-refl (x ∷ y ∷ ys)
      ]

  IsPermutation-ordered : (xs : List X) → IsPermutation xs (ordered lt xs)
  IsPermutation-ordered [] = IsPermutation-refl []
  IsPermutation-ordered (x ∷ xs) =
      IsPermutation-trans (x ∷ xs) (x ∷ ordered lt xs) (put lt x (ordered lt xs))
      (IsPermutation-cons x xs (ordered lt xs) (IsPermutation-ordered xs)) (IsPermutation-put x (ordered lt xs))

  filter-put : (x c : X) (ds : List X) → filter (ties lt x) (put lt c ds) ≡ filter (ties lt x) (c ∷ ds)
  filter-put x c [] = refl
  filter-put x c (d ∷ ds) =
      let p = ties lt x in
      elim (cases_Bool (lt d c)) [
        | inr stays ↦ ap (filter p) (cond-false _ (d ∷ put lt c ds) (c ∷ d ∷ ds) stays)
        | inl past ↦
            ap (filter p) (cond-true _ (d ∷ put lt c ds) (c ∷ d ∷ ds) past)
            ∙ elim (cases_Bool (p d)) [
              | inr without ↦
                  filter-dropped p d (put lt c ds) without ∙ filter-put x c ds
                  ∙ ap (λ l. cond (p c) (c ∷ l) l) (sym (filter-dropped p d ds without))
              | inl with ↦
                  elim (cases_Bool (p c)) [
                    | inl both ↦ let clash = sym past ∙ order.chain d x c (tied x d with).1 (tied x c both).0 in cc
                    | inr only ↦
                        filter-kept p d (put lt c ds) with ∙ ap (λ l. d ∷ l) (filter-put x c ds ∙ filter-dropped p c ds only)
                        ∙ sym (filter-dropped p c (d ∷ ds) only ∙ filter-kept p d ds with)
                  ]
            ]
      ]

  filter-ordered : (x : X) (cs : List X) → filter (ties lt x) (ordered lt cs) ≡ filter (ties lt x) cs
  filter-ordered x [] = refl
  filter-ordered x (c ∷ cs) = filter-put x c (ordered lt cs) ∙ ap (λ l. cond (ties lt x c) (c ∷ l) l) (filter-ordered x cs)

  NoneBefore-chain : (x y : X) (zs : List X) → lt y x ≡ false → NoneBefore lt y zs → NoneBefore lt x zs
  NoneBefore-chain x y [] h below = tt
  NoneBefore-chain x y (z ∷ zs) h below = (order.chain z y x below.0 h, NoneBefore-chain x y zs h below.1)

  NoneBefore-put : (m x : X) (ys : List X) → lt x m ≡ false → NoneBefore lt m ys → NoneBefore lt m (put lt x ys)
  NoneBefore-put m x [] h below = (h, tt)
  NoneBefore-put m x (y ∷ ys) h below =
      elim (lt y x) as (λ (b : Bool). NoneBefore lt m (cond b (y ∷ put lt x ys) (x ∷ y ∷ ys))) [
        | true ↦ (below.0, NoneBefore-put m x ys h below.1)
        | false ↦ (h, below)
      ]

  Rises-put : (x : X) (ys : List X) → Rises lt ys → Rises lt (put lt x ys)
  Rises-put x [] h = (tt, tt)
  Rises-put x (y ∷ ys) h =
      elim (cases_Bool (lt y x)) [
        | inl past ↦
            subst (λ (l : List X). Rises lt l) (sym (cond-true _ (y ∷ put lt x ys) (x ∷ y ∷ ys) past))
            (NoneBefore-put y x ys (order.one_way y x past) h.0, Rises-put x ys h.1)
        | inr stays ↦
            subst (λ (l : List X). Rises lt l) (sym (cond-false _ (y ∷ put lt x ys) (x ∷ y ∷ ys) stays))
            ((stays, NoneBefore-chain x y ys stays h.0), h)
      ]

  Rises-ordered : (cs : List X) → Rises lt (ordered lt cs)
  Rises-ordered [] = tt
  Rises-ordered (c ∷ cs) = Rises-put c (ordered lt cs) (Rises-ordered cs)

  -- ---- sorted lists

  next_not_before : (ys : List X) (k : ℕ) (d : X) → Rises lt ys → suc k < length ys → lt (get_or ys (suc k) d) (get_or ys k d) ≡ false
  next_not_before [] k d h more = absurd (omega (arith, more))
  next_not_before (y ∷ []) k d h more = absurd (omega (arith, more))
  next_not_before (y ∷ z ∷ zs) zero d h more = h.0.0
  next_not_before (y ∷ z ∷ zs) (suc k) d h more = next_not_before (z ∷ zs) k d h.1 (omega (arith, more))

  sorted_from_rises : (ys : List X) → Rises lt ys → IsSortedBy lt ys
  sorted_from_rises ys h k d le more = rw add-one (next_not_before ys k d h (omega (arith, more)))

  NoneBefore-from : (x : X) (ys : List X) → ((j : ℕ) (d : X) → j < length ys → lt (get_or ys j d) x ≡ false) → NoneBefore lt x ys
  NoneBefore-from x [] h = tt
  NoneBefore-from x (y ∷ ys) h = (h zero y (omega arith), NoneBefore-from x ys (λ j d l. h (suc j) d (omega (arith, l))))

  rises_from_far : (ys : List X) → ((i j : ℕ) (d : X) → i ≤ j → j < length ys → lt (get_or ys j d) (get_or ys i d) ≡ false) → Rises lt ys
  rises_from_far [] h = tt
  rises_from_far (y ∷ ys) h = (
    NoneBefore-from y ys (λ j d l. h zero (suc j) d (omega arith) (omega (arith, l))),
    rises_from_far ys (λ i j d le l. h (suc i) (suc j) d (omega (arith, le)) (omega (arith, l))),
  )

  rises_from_sorted : (ys : List X) → IsSortedBy lt ys → Rises lt ys
  rises_from_sorted ys sorted = rises_from_far ys (sorted_far lt order ys sorted)

  -- ---- there is one sorted and stable list

  -- an element that ties with x is among them
  NoneBefore-found : (m x : X) (ys : List X) (w : X) (ws : List X) → NoneBefore lt m ys → filter (ties lt x) ys ≡ w ∷ ws → lt x m ≡ false
  NoneBefore-found m x [] w ws h e = cc
  NoneBefore-found m x (y ∷ ys) w ws h e =
      elim (cases_Bool (ties lt x y)) [
        | inl with ↦ order.chain x y m (tied x y with).0 h.0
        | inr without ↦ NoneBefore-found m x ys w ws h.1 (sym (filter-dropped (ties lt x) y ys without) ∙ e)
      ]

  agree-tails : (y : X) (ys zs : List X) (x : X) → Agree lt (y ∷ ys) (y ∷ zs) x → Agree lt ys zs x
  agree-tails y ys zs x same =
      elim (cases_Bool (ties lt x y)) [
        | inl with ↦ let both = sym (filter-kept (ties lt x) y ys with) ∙ same ∙ filter-kept (ties lt x) y zs with in cc
        | inr without ↦ sym (filter-dropped (ties lt x) y ys without) ∙ same ∙ filter-dropped (ties lt x) y zs without
      ]

  same_heads : (y z : X) (ys zs : List X) → Rises lt (y ∷ ys) → Rises lt (z ∷ zs) → Agree lt (y ∷ ys) (z ∷ zs) y → Agree lt (y ∷ ys) (z ∷ zs) z → y ≡ z
  same_heads y z ys zs left right at_left at_right =
      let at_y = filter-kept (ties lt y) y ys (ties-refl y) in
      let at_z = filter-kept (ties lt z) z zs (ties-refl z) in
      let up = NoneBefore-found z y (z ∷ zs) y _ (not_before_itself z, right.0) (sym at_left ∙ at_y) in
      let down = NoneBefore-found y z (y ∷ ys) z _ (not_before_itself y, left.0) (at_right ∙ at_z) in
      let heads = sym at_y ∙ at_left ∙ filter-kept (ties lt y) z zs (ties_from y z up down) in cc

  same_from_ties : (ys zs : List X) → Rises lt ys → Rises lt zs → All (Agree lt ys zs) ys → All (Agree lt ys zs) zs → ys ≡ zs
  same_from_ties [] [] left right in_left in_right = refl
  same_from_ties [] (z ∷ zs) left right in_left in_right =
      let clash = All-head (Agree lt [] (z ∷ zs)) z zs in_right ∙ filter-kept (ties lt z) z zs (ties-refl z) in cc
  same_from_ties (y ∷ ys) [] left right in_left in_right =
      let clash = sym (All-head (Agree lt (y ∷ ys) []) y ys in_left) ∙ filter-kept (ties lt y) y ys (ties-refl y) in cc
  same_from_ties (y ∷ ys) (z ∷ zs) left right in_left in_right =
      let agree = Agree lt (y ∷ ys) (z ∷ zs) in
      let head : y ≡ z = same_heads y z ys zs left right (All-head agree y ys in_left) (All-head agree z zs in_right) in
      let tails : (x : X) → agree x → Agree lt ys zs x = λ x same. agree-tails y ys zs x (same ∙ ap (λ w. filter (ties lt x) (w ∷ zs)) (sym head)) in
      ap (λ w. w ∷ ys) head
      ∙ ap (λ l. z ∷ l) (same_from_ties ys zs left.1 right.1
      (All-weaker agree (Agree lt ys zs) tails ys (All-tail agree y ys in_left))
      (All-weaker agree (Agree lt ys zs) tails zs (All-tail agree z zs in_right)))

-- ---- the same of entries

before_order : (rules : List SortRule) → IsStrictWeakOrder (comes_before rules)
before_order rules = ranks_by (entry_cmp_total rules) (λ (entry : Entry). entry)

put-is : (rules : List SortRule) (entry : Entry) (entries : List Entry) → before_later rules entry entries ≡ put (comes_before rules) entry entries
put-is rules entry [] = refl
put-is rules entry (other ∷ entries) =
    ap (λ l. cond (comes_before rules other entry) (other ∷ l) (entry ∷ other ∷ entries)) (put-is rules entry entries)

printed-is : (rules : List SortRule) (entries : List Entry) → printed rules entries ≡ ordered (comes_before rules) entries
unfolding printed
printed-is rules [] = refl
printed-is rules (entry ∷ entries) =
    ap (before_later rules entry) (printed-is rules entries) ∙ put-is rules entry (ordered (comes_before rules) entries)

pub printed_is_in_print_order : PrintedIsInPrintOrder
printed_is_in_print_order rules entries =
    let lt = comes_before rules in
    let order = before_order rules in
    subst (IsPrintOrder rules entries) (sym (printed-is rules entries)) (record {
      permutation = IsPermutation-ordered lt order entries;
      sorted = sorted_from_rises lt order (ordered lt entries) (Rises-ordered lt order entries);
      stable = λ k d l. filter-ordered lt order (get_or entries k d) entries;
    })

pub one_print_order : OnePrintOrder
one_print_order rules entries shown other a b =
    let lt = comes_before rules in
    let order = before_order rules in
    let agree : All (Agree lt other shown) entries = λ k d l. b.stable k d l ∙ sym (a.stable k d l) in
    same_from_ties lt order other shown (rises_from_sorted lt order other b.sorted) (rises_from_sorted lt order shown a.sorted)
    (All-permutation (Agree lt other shown) entries other b.permutation agree)
    (All-permutation (Agree lt other shown) entries shown a.permutation agree)
