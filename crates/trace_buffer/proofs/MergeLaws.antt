-- What the merged records are.
use Rattle.std.proofs.Common.{◌≡◌, ℕ, zero, suc, ◌+◌, ◌<◌, ◌≤◌, Bool, true, false, cond, eqb, ltb, List, [], ◌∷◌, ◌++◌, length, map, get_or, filter, refl, sym, ap, ◌∙◌, subst, arith}
use Rattle.std.specs.List.Sorted.{IsPermutation, IsNonDecreasingBy}
use Rattle.std.proofs.lemmas.Bool.{cond-true, cond-false, eq-eqb, ne_eqb}
use Rattle.std.proofs.lemmas.List.{map-id, append-nil}
use Rattle.std.proofs.lemmas.List.Elements.{filter-append}
use Rattle.std.proofs.lemmas.List.Sorted.{IsPermutation-refl, IsPermutation-cons, IsPermutation-trans, IsPermutation-middle}
use Rattle.trace_record.specs.Record.{timestamp}
use Rattle.page_ring.specs.Account.{Reading, readings_of}
use Rattle.page_ring.specs.Events.{Event}
use Rattle.trace_buffer.specs.Families.{CpuReading, on_cpu, cpu_readings}
use Rattle.trace_buffer.specs.Orders.{kept_from, by_timestamp, merged}
use Rattle.trace_buffer.specs.Laws.{AllAreByCpu, IsInTimeOrder, MergedIsInTimeOrder, OneTimeOrder}
use Rattle.trace_buffer.proofs.Consumed.{readings_of-nil}
use Rattle.trace_buffer.proofs.Merges.{put_before, ordered_by, filter-ordered_by, Rises, AreAtLeast, Rises-ordered_by, Rises-from_sort, same_from_ties, map-ordered_by}

-- ---- by timestamp

IsPermutation-put : {X : Type 0} (n : X → ℕ) (x : X) (ys : List X) → IsPermutation (x ∷ ys) (put_before n x ys)
IsPermutation-put n x [] = IsPermutation-refl (x ∷ [])
IsPermutation-put {X} n x (y ∷ ys) =
    elim (ltb (n y) (n x)) as (λ (b : Bool). IsPermutation (x ∷ y ∷ ys) (cond b (y ∷ put_before n x ys) (x ∷ y ∷ ys))) [
      | true ↦ IsPermutation-trans (x ∷ y ∷ ys) (y ∷ x ∷ ys) (y ∷ put_before n x ys) (IsPermutation-middle (x ∷ []) y ys)
          (IsPermutation-cons y (x ∷ ys) (put_before n x ys) (IsPermutation-put n x ys))
      | false ↦ IsPermutation-refl (x ∷ y ∷ ys)
    ]

IsPermutation-ordered : {X : Type 0} (n : X → ℕ) (xs : List X) → IsPermutation xs (ordered_by n xs)
IsPermutation-ordered n [] = IsPermutation-refl []
IsPermutation-ordered n (x ∷ xs) =
    IsPermutation-trans (x ∷ xs) (x ∷ ordered_by n xs) (put_before n x (ordered_by n xs))
    (IsPermutation-cons x xs (ordered_by n xs) (IsPermutation-ordered n xs)) (IsPermutation-put n x (ordered_by n xs))

at_least : {X : Type 0} (n : X → ℕ) (m : ℕ) (ys : List X) (j : ℕ) (d : X) → AreAtLeast n m ys → j < length ys → m ≤ n (get_or ys j d)
at_least n m [] j d h l = absurd (omega arith)
at_least n m (y ∷ ys) zero d h l = h.0
at_least n m (y ∷ ys) (suc j) d h l = at_least n m ys j d h.1 (omega arith)

pub rises_everywhere : {X : Type 0} (n : X → ℕ) (ys : List X) → Rises n ys → IsNonDecreasingBy n ys
rises_everywhere n [] h i j d le l = absurd (omega arith)
rises_everywhere n (y ∷ ys) h zero zero d le l = omega arith
rises_everywhere n (y ∷ ys) h zero (suc j) d le l = at_least n (n y) ys j d h.0 (omega arith)
rises_everywhere n (y ∷ ys) h (suc i) zero d le l = absurd (omega arith)
rises_everywhere n (y ∷ ys) h (suc i) (suc j) d le l = rises_everywhere n ys h.1 i j d (omega arith) (omega arith)

by_timestamp-ordered : (all : List CpuReading) → by_timestamp all ≡ ordered_by (λ r. timestamp r.rec) all
by_timestamp-ordered all =
    ap by_timestamp (sym (map-id all)) ∙ sym (map-ordered_by (λ (r : CpuReading). r) all)
    ∙ map-id (ordered_by (λ (r : CpuReading). timestamp r.rec) all)

pub merged_is_in_time_order : MergedIsInTimeOrder
unfolding merged
merged_is_in_time_order pages page_bytes family =
    let all = kept_from pages page_bytes 0 family in
    let n = λ (r : CpuReading). timestamp r.rec in
    subst (IsInTimeOrder all) (sym (by_timestamp-ordered all)) (record {
      permutation = IsPermutation-ordered n all;
      rising = rises_everywhere n (ordered_by n all) (Rises-ordered_by n all);
      ties = λ x. filter-ordered_by n x all;
    })

pub one_time_order : OneTimeOrder
one_time_order all shown other a b =
    let n = λ (r : CpuReading). timestamp r.rec in
    same_from_ties n other shown (Rises-from_sort n other b.rising) (Rises-from_sort n shown a.rising) (λ x. b.ties x ∙ sym (a.ties x))

-- ---- by CPU

-- the records of a CPU among those of its own, and of another
filter-own : (cpu : ℕ) (readings : List Reading) → filter (λ r. eqb r.cpu cpu) (map (on_cpu cpu) readings) ≡ map (on_cpu cpu) readings
filter-own cpu [] = refl
filter-own cpu (r ∷ rest) =
    cond-true _ (on_cpu cpu r ∷ filter (λ r. eqb r.cpu cpu) (map (on_cpu cpu) rest)) (filter (λ r. eqb r.cpu cpu) (map (on_cpu cpu) rest))
    (eq-eqb cpu cpu refl)
    ∙ ap (λ l. on_cpu cpu r ∷ l) (filter-own cpu rest)

filter-other : (cpu other : ℕ) (readings : List Reading) → other < cpu → filter (λ r. eqb r.cpu other) (map (on_cpu cpu) readings) ≡ []
filter-other cpu other [] l = refl
filter-other cpu other (r ∷ rest) l =
    cond-false _ (on_cpu cpu r ∷ filter (λ r. eqb r.cpu other) (map (on_cpu cpu) rest)) (filter (λ r. eqb r.cpu other) (map (on_cpu cpu) rest))
    (ne_eqb cpu other (λ e. omega (arith, e)))
    ∙ filter-other cpu other rest l

filter-later : (pages page_bytes cpu other : ℕ) (family : List (List Event)) → other < cpu
    → filter (λ r. eqb r.cpu other) (kept_from pages page_bytes cpu family) ≡ []
filter-later pages page_bytes cpu other [] l = refl
filter-later pages page_bytes cpu other (events ∷ family) l =
    filter-append (λ (r : CpuReading). eqb r.cpu other) (map (on_cpu cpu) (readings_of pages page_bytes events)) (kept_from pages page_bytes (cpu + 1) family)
    ∙ ap (λ (front : List CpuReading). front ++ filter (λ r. eqb r.cpu other) (kept_from pages page_bytes (cpu + 1) family))
    (filter-other cpu other (readings_of pages page_bytes events) l)
    ∙ filter-later pages page_bytes (cpu + 1) other family (omega arith)

filter-from : (pages page_bytes from k cpu : ℕ) (family : List (List Event)) → cpu ≡ from + k
    → filter (λ r. eqb r.cpu cpu) (kept_from pages page_bytes from family) ≡ map (on_cpu cpu) (cpu_readings pages page_bytes family k)
filter-from pages page_bytes from k cpu [] e = ap (map (on_cpu cpu)) (sym (readings_of-nil pages page_bytes))
filter-from pages page_bytes from zero cpu (events ∷ family) e =
    let here = readings_of pages page_bytes events in
    let rest = kept_from pages page_bytes (from + 1) family in
    let at : from ≡ cpu = omega (arith, e) in
    filter-append (λ (r : CpuReading). eqb r.cpu cpu) (map (on_cpu from) here) rest
    ∙ ap (λ (l : List CpuReading). filter (λ r. eqb r.cpu cpu) (map (on_cpu from) here) ++ l)
    (filter-later pages page_bytes (from + 1) cpu family (omega (arith, at)))
    ∙ append-nil (filter (λ r. eqb r.cpu cpu) (map (on_cpu from) here))
    ∙ ap (λ (c : ℕ). filter (λ r. eqb r.cpu cpu) (map (on_cpu c) here)) at ∙ filter-own cpu here
filter-from pages page_bytes from (suc k) cpu (events ∷ family) e =
    let here = readings_of pages page_bytes events in
    let rest = kept_from pages page_bytes (from + 1) family in
    filter-append (λ (r : CpuReading). eqb r.cpu cpu) (map (on_cpu from) here) rest
    ∙ ap (λ (front : List CpuReading). front ++ filter (λ r. eqb r.cpu cpu) rest) (filter-above from cpu here (omega (arith, e)))
    ∙ filter-from pages page_bytes (from + 1) k cpu family (omega (arith, e))
  where
    filter-above : (cpu other : ℕ) (readings : List Reading) → cpu < other → filter (λ r. eqb r.cpu other) (map (on_cpu cpu) readings) ≡ []
    filter-above cpu other [] l = refl
    filter-above cpu other (r ∷ rest) l =
        cond-false _ (on_cpu cpu r ∷ filter (λ r. eqb r.cpu other) (map (on_cpu cpu) rest)) (filter (λ r. eqb r.cpu other) (map (on_cpu cpu) rest))
        (ne_eqb cpu other (λ e. omega (arith, e)))
        ∙ filter-above cpu other rest l

AreAtLeast-from : (pages page_bytes m from : ℕ) (family : List (List Event)) → m ≤ from → AreAtLeast (λ r. r.cpu) m (kept_from pages page_bytes from family)
AreAtLeast-from pages page_bytes m from [] le = tt
AreAtLeast-from pages page_bytes m from (events ∷ family) le =
    in_front (readings_of pages page_bytes events) (kept_from pages page_bytes (from + 1) family)
    (AreAtLeast-from pages page_bytes m (from + 1) family (omega arith))
  where
    in_front : (readings : List Reading) (rest : List CpuReading) → AreAtLeast (λ r. r.cpu) m rest
        → AreAtLeast (λ r. r.cpu) m (map (on_cpu from) readings ++ rest)
    in_front [] rest h = h
    in_front (r ∷ readings) rest h = (le, in_front readings rest h)

Rises-from : (pages page_bytes from : ℕ) (family : List (List Event)) → Rises (λ r. r.cpu) (kept_from pages page_bytes from family)
Rises-from pages page_bytes from [] = tt
Rises-from pages page_bytes from (events ∷ family) =
    in_front (readings_of pages page_bytes events) (kept_from pages page_bytes (from + 1) family)
    (AreAtLeast-from pages page_bytes from (from + 1) family (omega arith)) (Rises-from pages page_bytes (from + 1) family)
  where
    above : (readings : List Reading) (rest : List CpuReading) → AreAtLeast (λ r. r.cpu) from rest
        → AreAtLeast (λ r. r.cpu) from (map (on_cpu from) readings ++ rest)
    above [] rest h = h
    above (r ∷ readings) rest h = (omega arith, above readings rest h)

    in_front : (readings : List Reading) (rest : List CpuReading) → AreAtLeast (λ r. r.cpu) from rest → Rises (λ r. r.cpu) rest
        → Rises (λ r. r.cpu) (map (on_cpu from) readings ++ rest)
    in_front [] rest h up = up
    in_front (r ∷ readings) rest h up = (above readings rest h, in_front readings rest h up)

pub all_are_by_cpu : AllAreByCpu
all_are_by_cpu pages page_bytes family = record {
  rising = rises_everywhere (λ (r : CpuReading). r.cpu) (kept_from pages page_bytes 0 family) (Rises-from pages page_bytes 0 family);
  each = λ cpu. filter-from pages page_bytes 0 cpu cpu family (omega arith);
}
