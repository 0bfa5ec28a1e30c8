-- The records of all CPUs in one list, and its order by timestamp.
use Rattle.std.proofs.Common.{◌≡◌, ℕ, zero, suc, ◌+◌, ◌<◌, ◌≤◌, Bool, true, false, cond, ltb, inl, inr, List, [], ◌∷◌, ◌++◌, length, map, take, get_or, filter, nat_cmp, is_lt, refl, sym, ap, ◌∙◌, subst, arith, suc-le-suc, zero-le}
use Rattle.std.specs.List.Sorted.{ties, IsNonDecreasingBy, IsStableByKey}
use Rattle.std.proofs.lemmas.List.{append_assoc, append-nil}
use Rattle.std.proofs.lemmas.Bool.{cond-true, cond-false, cases_Bool, ltb-true, ltb-false}
use Rattle.std.proofs.lemmas.Bool.Decides.{nat_tests}
use Rattle.trace_record.specs.Record.{timestamp}
use Rattle.page_ring.specs.Account.{readings_of}
use Rattle.page_ring.specs.Events.{Event}
use Rattle.trace_buffer.specs.Families.{CpuReading, on_cpu, events_of}
use Rattle.trace_buffer.specs.Orders.{kept_from, by_timestamp, before_later}

-- the records of one CPU more
pub kept_from-more : (pages page_bytes cpu i place : ℕ) (family : List (List Event)) → place ≡ cpu + i → i < length family
    → kept_from pages page_bytes cpu (take (i + 1) family)
    ≡ kept_from pages page_bytes cpu (take i family) ++ map (on_cpu place) (readings_of pages page_bytes (events_of family i))
kept_from-more pages page_bytes cpu i place [] is inside = absurd (omega arith)
kept_from-more pages page_bytes cpu zero place (events ∷ family) is inside =
    let e : cpu ≡ place = omega arith in
    append-nil (map (on_cpu cpu) (readings_of pages page_bytes events))
    ∙ ap (λ (c : ℕ). map (on_cpu c) (readings_of pages page_bytes events)) e
kept_from-more pages page_bytes cpu (suc i) place (events ∷ family) is inside =
    let here = map (on_cpu cpu) (readings_of pages page_bytes events) in
    let e : suc i + 1 ≡ suc (i + 1) = omega arith in
    ap (λ (n : ℕ). kept_from pages page_bytes cpu (take n (events ∷ family))) e
    ∙ ap (λ (rest : List CpuReading). here ++ rest) (kept_from-more pages page_bytes (cpu + 1) i place family (omega arith) (omega arith))
    ∙ sym (append_assoc here (kept_from pages page_bytes (cpu + 1) (take i family))
    (map (on_cpu place) (readings_of pages page_bytes (events_of family i))))

-- ---- the order by a number, of elements of any type

abbrev pub put_before : {X : Type 0} → (X → ℕ) → X → List X → List X
put_before n x [] = x ∷ []
put_before n x (y ∷ ys) = cond (ltb (n y) (n x)) (y ∷ put_before n x ys) (x ∷ y ∷ ys)

abbrev pub ordered_by : {X : Type 0} → (X → ℕ) → List X → List X
ordered_by n [] = []
ordered_by n (x ∷ xs) = put_before n x (ordered_by n xs)

abbrev same_place : {X : Type 0} → (X → ℕ) → X → X → Bool
same_place n = ties (λ x y. is_lt (nat_cmp (n x) (n y)))

ties_at : (m n : ℕ) → (ties (λ x y. is_lt (nat_cmp x y)) m n ≡ true → m ≡ n) × (m ≡ n → ties (λ x y. is_lt (nat_cmp x y)) m n ≡ true)
ties_at m n = (λ h. grind (arith, nat_tests), λ h. grind (arith, nat_tests))

same_place-true : {X : Type 0} (n : X → ℕ) (x y : X) → same_place n x y ≡ true → n x ≡ n y
same_place-true n x y = (ties_at (n x) (n y)).0

same_place_from : {X : Type 0} (n : X → ℕ) (x y : X) → n x ≡ n y → same_place n x y ≡ true
same_place_from n x y = (ties_at (n x) (n y)).1

filter-kept : {X : Type 0} (p : X → Bool) (y : X) (ys : List X) → p y ≡ true → filter p (y ∷ ys) ≡ y ∷ filter p ys
filter-kept p y ys h = cond-true _ _ _ h

filter-dropped : {X : Type 0} (p : X → Bool) (y : X) (ys : List X) → p y ≡ false → filter p (y ∷ ys) ≡ filter p ys
filter-dropped p y ys h = cond-false _ _ _ h

-- elements that tie stay in order
filter-put_before : {X : Type 0} (n : X → ℕ) (x c : X) (ds : List X) → filter (same_place n x) (put_before n c ds) ≡ filter (same_place n x) (c ∷ ds)
filter-put_before n x c [] = refl
filter-put_before n x c (d ∷ ds) =
    let p = same_place n x in
    elim (cases_Bool (ltb (n d) (n c))) [
      | inr stays ↦ ap (filter p) (cond-false _ (d ∷ put_before n c ds) (c ∷ d ∷ ds) stays)
      | inl past ↦
          let less = ltb-true _ _ past in
          ap (filter p) (cond-true _ (d ∷ put_before n c ds) (c ∷ d ∷ ds) past)
          ∙ elim (cases_Bool (p d)) [
            | inr without ↦
                filter-dropped p d (put_before n c ds) without ∙ filter-put_before n x c ds
                ∙ ap (λ l. cond (p c) (c ∷ l) l) (sym (filter-dropped p d ds without))
            | inl with ↦
                elim (cases_Bool (p c)) [
                  | inl both ↦ absurd (omega (arith, less, same_place-true n x c both, same_place-true n x d with))
                  | inr only ↦
                      filter-kept p d (put_before n c ds) with ∙ ap (λ l. d ∷ l) (filter-put_before n x c ds ∙ filter-dropped p c ds only)
                      ∙ sym (filter-dropped p c (d ∷ ds) only ∙ filter-kept p d ds with)
                ]
          ]
    ]

pub filter-ordered_by : {X : Type 0} (n : X → ℕ) (x : X) (cs : List X) → filter (same_place n x) (ordered_by n cs) ≡ filter (same_place n x) cs
filter-ordered_by n x [] = refl
filter-ordered_by n x (c ∷ cs) =
    filter-put_before n x c (ordered_by n cs) ∙ ap (λ l. cond (same_place n x c) (c ∷ l) l) (filter-ordered_by n x cs)

abbrev pub AreAtLeast : {X : Type 0} → (X → ℕ) → ℕ → List X → Type 0
AreAtLeast n m [] = Unit {0}
AreAtLeast n m (y ∷ ys) = (m ≤ n y) × AreAtLeast n m ys

abbrev pub Rises : {X : Type 0} → (X → ℕ) → List X → Type 0
Rises n [] = Unit {0}
Rises n (y ∷ ys) = AreAtLeast n (n y) ys × Rises n ys

AreAtLeast-le : {X : Type 0} (n : X → ℕ) (l m : ℕ) (ys : List X) → l ≤ m → AreAtLeast n m ys → AreAtLeast n l ys
AreAtLeast-le n l m [] le h = tt
AreAtLeast-le n l m (y ∷ ys) le h = let first = h.0 in (omega arith, AreAtLeast-le n l m ys le h.1)

AreAtLeast-at : {X : Type 0} (n : X → ℕ) (m : ℕ) (ys : List X) → ((j : ℕ) (d : X) → j < length ys → m ≤ n (get_or ys j d)) → AreAtLeast n m ys
AreAtLeast-at n m [] h = tt
AreAtLeast-at n m (y ∷ ys) h = (h zero y (suc-le-suc zero-le), AreAtLeast-at n m ys (λ j d lt. h (suc j) d (suc-le-suc lt)))

pub Rises-from_sort : {X : Type 0} (n : X → ℕ) (ys : List X) → IsNonDecreasingBy n ys → Rises n ys
Rises-from_sort n [] h = tt
Rises-from_sort n (y ∷ ys) h = (
  AreAtLeast-at n (n y) ys (λ j d lt. h zero (suc j) d zero-le (suc-le-suc lt)),
  Rises-from_sort n ys (λ i j d le lt. h (suc i) (suc j) d (suc-le-suc le) (suc-le-suc lt)),
)

AreAtLeast-put : {X : Type 0} (n : X → ℕ) (m : ℕ) (x : X) (ys : List X) → m ≤ n x → AreAtLeast n m ys → AreAtLeast n m (put_before n x ys)
AreAtLeast-put n m x [] le h = (le, tt)
AreAtLeast-put n m x (y ∷ ys) le h =
    elim (ltb (n y) (n x)) as (λ (b : Bool). AreAtLeast n m (cond b (y ∷ put_before n x ys) (x ∷ y ∷ ys))) [
      | true ↦ (h.0, AreAtLeast-put n m x ys le h.1)
      | false ↦ (le, h)
    ]

Rises-put : {X : Type 0} (n : X → ℕ) (x : X) (ys : List X) → Rises n ys → Rises n (put_before n x ys)
Rises-put n x [] h = (tt, tt)
Rises-put {X} n x (y ∷ ys) h =
    elim (cases_Bool (ltb (n y) (n x))) [
      | inl past ↦
          let less = ltb-true _ _ past in
          subst (λ (l : List X). Rises n l) (sym (cond-true _ (y ∷ put_before n x ys) (x ∷ y ∷ ys) past))
          (AreAtLeast-put n (n y) x ys (omega arith) h.0, Rises-put n x ys h.1)
      | inr stays ↦
          let more = ltb-false _ _ stays in
          subst (λ (l : List X). Rises n l) (sym (cond-false _ (y ∷ put_before n x ys) (x ∷ y ∷ ys) stays))
          ((more, AreAtLeast-le n (n x) (n y) ys more h.0), h)
    ]

pub Rises-ordered_by : {X : Type 0} (n : X → ℕ) (cs : List X) → Rises n (ordered_by n cs)
Rises-ordered_by n [] = tt
Rises-ordered_by n (c ∷ cs) = Rises-put n c (ordered_by n cs) (Rises-ordered_by n cs)

-- an element with the number of x is among them
AreAtLeast-found : {X : Type 0} (n : X → ℕ) (m : ℕ) (x : X) (ys : List X) (w : X) (ws : List X) → AreAtLeast n m ys
    → filter (same_place n x) ys ≡ w ∷ ws → m ≤ n x
AreAtLeast-found n m x [] w ws h e = cc
AreAtLeast-found n m x (y ∷ ys) w ws h e =
    elim (cases_Bool (same_place n x y)) [
      | inl with ↦ omega (arith, h.0, same_place-true n x y with)
      | inr without ↦ AreAtLeast-found n m x ys w ws h.1 (sym (filter-dropped (same_place n x) y ys without) ∙ e)
    ]

-- lists in order are the same where elements that tie stand in them in the same order
pub same_from_ties : {X : Type 0} (n : X → ℕ) (ys zs : List X) → Rises n ys → Rises n zs
    → ((x : X) → filter (same_place n x) ys ≡ filter (same_place n x) zs) → ys ≡ zs
same_from_ties n [] [] left right same = refl
same_from_ties n [] (z ∷ zs) left right same =
    let clash = same z ∙ filter-kept (same_place n z) z zs (same_place_from n z z refl) in cc
same_from_ties n (y ∷ ys) [] left right same =
    let clash = sym (same y) ∙ filter-kept (same_place n y) y ys (same_place_from n y y refl) in cc
same_from_ties n (y ∷ ys) (z ∷ zs) left right same =
    let at_y = filter-kept (same_place n y) y ys (same_place_from n y y refl) in
    let at_z = filter-kept (same_place n z) z zs (same_place_from n z z refl) in
    let up = AreAtLeast-found n (n z) y (z ∷ zs) y _ (omega arith, right.0) (sym (same y) ∙ at_y) in
    let down = AreAtLeast-found n (n y) z (y ∷ ys) z _ (omega arith, left.0) (same z ∙ at_z) in
    let heads = sym at_y ∙ same y ∙ filter-kept (same_place n y) z zs (same_place_from n y z (omega arith)) in
    let head : y ≡ z = cc in
    let tails : (x : _) → filter (same_place n x) ys ≡ filter (same_place n x) zs =
    λ x. elim (cases_Bool (same_place n x y)) [
      | inl with ↦
          let both = sym (filter-kept (same_place n x) y ys with) ∙ same x ∙ filter-kept (same_place n x) z zs (ap (same_place n x) (sym head) ∙ with) in cc
      | inr without ↦
          sym (filter-dropped (same_place n x) y ys without) ∙ same x
          ∙ filter-dropped (same_place n x) z zs (ap (same_place n x) (sym head) ∙ without)
    ] in
    ap (λ w. w ∷ ys) head ∙ ap (λ l. z ∷ l) (same_from_ties n ys zs left.1 right.1 tails)

-- what a stable sort by a number gives
pub ordered_by-from_sort : {X : Type 0} (n : X → ℕ) (xs ys : List X) → IsNonDecreasingBy n ys → IsStableByKey n nat_cmp xs ys → ys ≡ ordered_by n xs
ordered_by-from_sort n xs ys sorted stable =
    same_from_ties n ys (ordered_by n xs) (Rises-from_sort n ys sorted) (Rises-ordered_by n xs)
    (λ x. stable x ∙ sym (filter-ordered_by n x xs))

-- ---- the same by timestamp

map-put_before : {X : Type 0} (v : X → CpuReading) (x : X) (ys : List X)
    → map v (put_before (λ y. timestamp (v y).rec) x ys) ≡ before_later (v x) (map v ys)
map-put_before v x [] = refl
map-put_before {X} v x (y ∷ ys) =
    elim (cases_Bool (ltb (timestamp (v y).rec) (timestamp (v x).rec))) [
      | inl past ↦
          ap (map v) (cond-true _ (y ∷ put_before (λ (z : X). timestamp (v z).rec) x ys) (x ∷ y ∷ ys) past)
          ∙ ap (λ l. v y ∷ l) (map-put_before v x ys)
          ∙ sym (cond-true _ (v y ∷ before_later (v x) (map v ys)) (v x ∷ v y ∷ map v ys) past)
      | inr stays ↦
          ap (map v) (cond-false _ (y ∷ put_before (λ (z : X). timestamp (v z).rec) x ys) (x ∷ y ∷ ys) stays)
          ∙ sym (cond-false _ (v y ∷ before_later (v x) (map v ys)) (v x ∷ v y ∷ map v ys) stays)
    ]

pub map-ordered_by : {X : Type 0} (v : X → CpuReading) (xs : List X)
    → map v (ordered_by (λ x. timestamp (v x).rec) xs) ≡ by_timestamp (map v xs)
map-ordered_by v [] = refl
map-ordered_by {X} v (x ∷ xs) =
    map-put_before v x (ordered_by (λ (y : X). timestamp (v y).rec) xs) ∙ ap (before_later (v x)) (map-ordered_by v xs)

pub by_timestamp-from_sort : {X : Type 0} (v : X → CpuReading) (xs ys : List X) → IsNonDecreasingBy (λ x. timestamp (v x).rec) ys
    → IsStableByKey (λ x. timestamp (v x).rec) nat_cmp xs ys → map v ys ≡ by_timestamp (map v xs)
by_timestamp-from_sort {X} v xs ys sorted stable =
    ap (map v) (ordered_by-from_sort (λ (x : X). timestamp (v x).rec) xs ys sorted stable) ∙ map-ordered_by v xs
