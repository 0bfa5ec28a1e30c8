-- Print order: comparing is an order, and a stable sort gives that order.
use Rattle.std.proofs.Common.{◌≡◌, ◌+◌, ◌<◌, Bool, true, false, cond, List, [], ◌∷◌, length, map, filter, get_or, refl, sym, ap, ◌∙◌, arith}
use Rattle.std.specs.declared.cmp.Ordering.TheVariants.{Less, Equal}
use Rattle.std.specs.Ordering.{ordering_reverse}
use Rattle.std.specs.Cmp.{IsTotalOrder, IsStrictWeakOrder, int_cmp_total, on_total, back_total, then_total}
use Rattle.std.specs.Cmp.Lexicographic.{nat_list_cmp_total}
use Rattle.std.specs.List.Sorted.{ties, IsPermutation, IsSortedBy, IsStableBy}
use Rattle.std.proofs.lemmas.List.{length-map, get_or-map}
use Rattle.std.proofs.lemmas.List.Elements.{All-map}
use Rattle.std.proofs.lemmas.List.Sorted.{ranks_by, IsPermutation-map}
use Rattle.trace_format.specs.Cells.{Datum, Whole, Bytes}
use Rattle.hist_entries.specs.declared.entry.HistRow.{HistRow}
use Rattle.trace_format.specs.declared.sort_rule.SortSource.{SortSource}
use Rattle.trace_format.specs.declared.sort_rule.SortRule.{SortRule}
use Rattle.hist_entries.specs.HistEntries.{Entry}
use Rattle.hist_entries.specs.PrintOrder.{datum_cmp, sort_cell, directed, entry_cmp, comes_before, row_in, IsPrintOrder}

-- ---- comparing is an order

pub datum_cmp_total : IsTotalOrder datum_cmp
datum_cmp_total = record { antisymm = turned; trans = chained; congr = alike }
  where
    turned : (x y : Datum) → datum_cmp x y ≡ ordering_reverse (datum_cmp y x)
    turned (Whole m) (Whole n) = int_cmp_total.antisymm m n
    turned (Whole m) (Bytes c) = refl
    turned (Bytes b) (Whole n) = refl
    turned (Bytes b) (Bytes c) = nat_list_cmp_total.antisymm b c

    chained : (x y z : Datum) → datum_cmp x y ≡ Less → datum_cmp y z ≡ Less → datum_cmp x z ≡ Less
    chained (Whole l) (Whole m) (Whole n) p q = int_cmp_total.trans l m n p q
    chained (Whole l) (Whole m) (Bytes d) p q = refl
    chained (Whole l) (Bytes c) (Whole n) p q = cc
    chained (Whole l) (Bytes c) (Bytes d) p q = refl
    chained (Bytes b) (Whole m) z p q = cc
    chained (Bytes b) (Bytes c) (Whole n) p q = q
    chained (Bytes b) (Bytes c) (Bytes d) p q = nat_list_cmp_total.trans b c d p q

    alike : (x y z : Datum) → datum_cmp x y ≡ Equal → datum_cmp x z ≡ datum_cmp y z
    alike (Whole l) (Whole m) (Whole n) p = int_cmp_total.congr l m n p
    alike (Whole l) (Whole m) (Bytes d) p = refl
    alike (Whole l) (Bytes c) z p = cc
    alike (Bytes b) (Whole m) z p = cc
    alike (Bytes b) (Bytes c) (Whole n) p = refl
    alike (Bytes b) (Bytes c) (Bytes d) p = nat_list_cmp_total.congr b c d p

directed_total : (descending : Bool) (source : SortSource) → IsTotalOrder (directed descending source)
directed_total false source = on_total (sort_cell source) datum_cmp_total
directed_total true source = back_total (on_total (sort_cell source) datum_cmp_total)

pub entry_cmp_total : (rules : List SortRule) → IsTotalOrder (entry_cmp rules)
entry_cmp_total [] = record { antisymm = λ x y. refl; trans = λ x y z p q. p; congr = λ x y z p. refl }
entry_cmp_total (rule ∷ rules) = then_total (directed_total rule.descending rule.source) (entry_cmp_total rules)

pub entry_order : (rules : List SortRule) → IsStrictWeakOrder (λ (x y : HistRow). comes_before rules (row_in x) (row_in y))
entry_order rules = ranks_by (entry_cmp_total rules) row_in

-- ---- a stable sort of the program's entries

module _ {X Y : Type 0} (f : X → Y) where
  sorted-map : (lt : Y → Y → Bool) (xs : List X) → IsSortedBy (λ x y. lt (f x) (f y)) xs → IsSortedBy lt (map f xs)
  sorted-map lt [] h k d le more = absurd (omega (arith, more))
  sorted-map lt (x ∷ xs) h k d le more =
      let inside : k + 1 < length (x ∷ xs) = omega (arith, more, length-map (x ∷ xs) f) in
      ap (λ y. lt y (get_or (map f (x ∷ xs)) k d)) (get_or-map f (x ∷ xs) (k + 1) x d inside)
      ∙ ap (λ y. lt (f (get_or (x ∷ xs) (k + 1) x)) y) (get_or-map f (x ∷ xs) k x d (omega (arith, inside)))
      ∙ h k x le inside

  pub filter-over : (test : Y → Bool) (xs : List X) → filter test (map f xs) ≡ map f (filter (λ x. test (f x)) xs)
  filter-over test [] = refl
  filter-over test (x ∷ xs) = by (test (f x)) (filter-over test xs)
    where
      by : (b : Bool) → filter test (map f xs) ≡ map f (filter (λ x. test (f x)) xs)
          → cond b (f x ∷ filter test (map f xs)) (filter test (map f xs)) ≡ map f (cond b (x ∷ filter (λ x. test (f x)) xs) (filter (λ x. test (f x)) xs))
      by true e = ap (λ l. f x ∷ l) e
      by false e = e

pub print_order : (rules : List SortRule) (entries printed : List HistRow) → IsPermutation entries printed
    → IsSortedBy (λ x y. comes_before rules (row_in x) (row_in y)) printed
    → IsStableBy (λ x y. comes_before rules (row_in x) (row_in y)) entries printed
    → IsPrintOrder rules (map row_in entries) (map row_in printed)
print_order rules entries printed permutation sorted stable = record {
  permutation = IsPermutation-map row_in entries printed permutation;
  sorted = sorted-map row_in (comes_before rules) printed sorted;
  stable = All-map (λ (e : Entry). filter (ties (comes_before rules) e) (map row_in printed) ≡ filter (ties (comes_before rules) e) (map row_in entries)) row_in entries (λ k d lt.
      let x = get_or entries k d in
      let test = ties (comes_before rules) (row_in x) in
      filter-over row_in test printed ∙ ap (map row_in) (stable x) ∙ sym (filter-over row_in test entries));
}
