-- The lists of events of CPUs, as the rings of an instance change.
use Rattle.std.proofs.Common.{◌≡◌, ◌⊎◌, inl, inr, ℕ, zero, suc, List, [], ◌∷◌, ◌++◌, replicate, get_or, set, Option, None, Some, refl, sym, ap, subst}
use Rattle.std.specs.List.{AllByRecursion}
use Rattle.page_ring.specs.Events.{Event, Take}
use Rattle.trace_buffer.specs.Families.{on_cpu, events_of, with_events, with_cleared}
use Rattle.trace_buffer.specs.Orders.{Candidate, Consumed, next_from, with_taken, consume_any}

-- ---- one list of them

-- a list that was put at an index is there, if the index is, and the others are as they were
pub set-at : {A : Type 0} (xs : List A) (i j : ℕ) (v d : A) → (get_or (set xs i v) j d ≡ get_or xs j d) ⊎ ((j ≡ i) × (get_or (set xs i v) j d ≡ v))
set-at [] i j v d = inl refl
set-at (x ∷ xs) zero zero v d = inr (refl, refl)
set-at (x ∷ xs) zero (suc j) v d = inl refl
set-at (x ∷ xs) (suc i) zero v d = inl refl
set-at (x ∷ xs) (suc i) (suc j) v d = by (set-at xs i j v d)
  where
    by : (get_or (set xs i v) j d ≡ get_or xs j d) ⊎ ((j ≡ i) × (get_or (set xs i v) j d ≡ v))
        → (get_or (set (x ∷ xs) (suc i) v) (suc j) d ≡ get_or (x ∷ xs) (suc j) d) ⊎ ((suc j ≡ suc i) × (get_or (set (x ∷ xs) (suc i) v) (suc j) d ≡ v))
    by (inl e) = inl e
    by (inr e) = inr (ap suc e.0, e.1)

pub at-replicate : {A : Type 0} (n j : ℕ) (v : A) → get_or (replicate n v) j v ≡ v
at-replicate zero j v = refl
at-replicate (suc n) zero v = refl
at-replicate (suc n) (suc j) v = at-replicate n j v

-- ---- what holds of each event of a CPU

append-are : (P : Event → Type 0) (xs ys : List Event) → AllByRecursion P xs → AllByRecursion P ys → AllByRecursion P (xs ++ ys)
append-are P [] ys all others = others
append-are P (x ∷ xs) ys all others = (all.0, append-are P xs ys all.1 others)

replicate-are : (P : Event → Type 0) (n : ℕ) (e : Event) → P e → AllByRecursion P (replicate n e)
replicate-are P zero e holds = tt
replicate-are P (suc n) e holds = (holds, replicate-are P n e holds)

-- it holds with more events of which it holds, if they are the CPU's
pub with_events-are : (P : Event → Type 0) (family : List (List Event)) (other cpu : ℕ) (more : List Event) → AllByRecursion P (events_of family cpu)
    → (cpu ≡ other → AllByRecursion P more) → AllByRecursion P (events_of (with_events other more family) cpu)
with_events-are P family other cpu more all others = by (set-at family other cpu (events_of family other ++ more) [])
  where
    by : (events_of (with_events other more family) cpu ≡ events_of family cpu)
        ⊎ ((cpu ≡ other) × (events_of (with_events other more family) cpu ≡ events_of family other ++ more))
        → AllByRecursion P (events_of (with_events other more family) cpu)
    by (inl e) = subst (AllByRecursion P) (sym e) all
    by (inr e) =
        let there : AllByRecursion P (events_of family other) = subst (λ (n : ℕ). AllByRecursion P (events_of family n)) e.0 all in
        subst (AllByRecursion P) (sym e.1) (append-are P (events_of family other) more there (others e.0))

pub with_takes-are : (P : Event → Type 0) (family : List (List Event)) (other cpu reads : ℕ) → P Take → AllByRecursion P (events_of family cpu)
    → AllByRecursion P (events_of (with_events other (replicate reads Take) family) cpu)
with_takes-are P family other cpu reads take all = with_events-are P family other cpu (replicate reads Take) all (λ e. replicate-are P reads Take take)

-- an emptied list has no events
pub with_cleared-are : (P : Event → Type 0) (family : List (List Event)) (other cpu : ℕ) → AllByRecursion P (events_of family cpu)
    → AllByRecursion P (events_of (with_cleared other family) cpu)
with_cleared-are P family other cpu all = by (set-at family other cpu [] [])
  where
    by : (events_of (with_cleared other family) cpu ≡ events_of family cpu) ⊎ ((cpu ≡ other) × (events_of (with_cleared other family) cpu ≡ []))
        → AllByRecursion P (events_of (with_cleared other family) cpu)
    by (inl e) = subst (AllByRecursion P) (sym e) all
    by (inr e) = subst (AllByRecursion P) (sym e.1) tt

pub replicate-are_none : (P : Event → Type 0) (n cpu : ℕ) → AllByRecursion P (events_of (replicate n []) cpu)
replicate-are_none P n cpu = let none : List Event = [] in subst (AllByRecursion P) (sym (at-replicate n cpu none)) tt

-- what reads of all CPUs take, where the next one finds this
abbrev pub consumed_next : ℕ → ℕ → ℕ → List (List Event) → Option Candidate → Consumed
consumed_next pages page_bytes reads family None = record { taken = []; family = family }
consumed_next pages page_bytes reads family (Some c) =
    with_taken (on_cpu c.cpu c.first) (consume_any pages page_bytes reads (with_events c.cpu (Take ∷ []) family))

pub consumed_step : (pages page_bytes reads : ℕ) (family : List (List Event))
    → consume_any pages page_bytes (suc reads) family ≡ consumed_next pages page_bytes reads family (next_from pages page_bytes 0 family)
consumed_step pages page_bytes reads family = by (next_from pages page_bytes 0 family)
  where
    by : (next : Option Candidate)
        → elim next [
          | None ↦ record { taken = []; family = family }
          | Some c ↦ with_taken (on_cpu c.cpu c.first) (consume_any pages page_bytes reads (with_events c.cpu (Take ∷ []) family))
        ]
        ≡ consumed_next pages page_bytes reads family next
    by None = refl
    by (Some c) = refl

-- reads of all CPUs add nothing but takes
pub consumed-are : (P : Event → Type 0) (pages page_bytes reads : ℕ) (family : List (List Event)) (cpu : ℕ) → P Take → AllByRecursion P (events_of family cpu)
    → AllByRecursion P (events_of (consume_any pages page_bytes reads family).family cpu)
consumed-are P pages page_bytes zero family cpu take all = all
consumed-are P pages page_bytes (suc reads) family cpu take all =
    subst (λ (c : Consumed). AllByRecursion P (events_of c.family cpu)) (sym (consumed_step pages page_bytes reads family))
    (by (next_from pages page_bytes 0 family)
    (λ (c : Candidate). consumed-are P pages page_bytes reads (with_events c.cpu (Take ∷ []) family) cpu take
    (with_events-are P family c.cpu cpu (Take ∷ []) all (λ e. (take, tt)))))
  where
    by : (next : Option Candidate)
        → ((c : Candidate) → AllByRecursion P (events_of (consume_any pages page_bytes reads (with_events c.cpu (Take ∷ []) family)).family cpu))
        → AllByRecursion P (events_of (consumed_next pages page_bytes reads family next).family cpu)
    by None rest = all
    by (Some c) rest = rest c
