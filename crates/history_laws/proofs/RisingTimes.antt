-- Timestamps that rise, and how often one is among them, as a ring keeps fewer records or one more.
use Rattle.std.proofs.Common.{zero-add, ◌≡◌, ◌⊎◌, inl, inr, ℕ, ◌+◌, ◌<◌, ◌≤◌, ◌==◌, Bool, cond, if◌then◌else◌, List, [], ◌∷◌, ◌++◌, filter, map, sym, ap, ◌∙◌, subst, arith}
use Rattle.std.specs.Bool.{⊤}
use Rattle.std.specs.List.{AllPairs, All, count_by}
use Rattle.std.proofs.lemmas.Bool.{cases_Bool}
use Rattle.std.proofs.lemmas.List.{map-append}
use Rattle.std.proofs.lemmas.List.Elements.{All-cons, All-nil}
use Rattle.std.proofs.lemmas.List.Kept.{AllPairs-cons}
use Rattle.std.proofs.lemmas.List.Sums.{sum_by-cons, sum_by-append}
use Rattle.trace_record.specs.Record.{timestamp}
use Rattle.page_ring.specs.Account.{account, kept, readings_of}
use Rattle.page_ring.specs.Cut.{Accepted}
use Rattle.page_ring.specs.Events.{Event, Put}
use Rattle.history_laws.proofs.KeptAfter.{IsLeft, kept-put, next_record, readings-map}

-- ---- lists of timestamps

-- they rise strictly, from above one number up to another
abbrev pub Rises : ℕ → ℕ → List ℕ → Type 0
Rises low high [] = ⊤
Rises low high (t ∷ ts) = (low < t) × (t ≤ high) × Rises t high ts

pub rises-higher : (low high more : ℕ) (ts : List ℕ) → high ≤ more → Rises low high ts → Rises low more ts
rises-higher low high more [] le h = tt
rises-higher low high more (t ∷ ts) le h = let k : t ≤ high = h.1 in (h.0, omega (arith, k, le), rises-higher t high more ts le h.2)

pub rises-lower : (low less high : ℕ) (ts : List ℕ) → less ≤ low → Rises low high ts → Rises less high ts
rises-lower low less high [] le h = tt
rises-lower low less high (t ∷ ts) le h = let k : low < t = h.0 in (omega (arith, k, le), h.1, h.2)

rises-push : (low high t : ℕ) (ts : List ℕ) → low < t → high < t → Rises low high ts → Rises low t (ts ++ t ∷ [])
rises-push low high t [] l m h = (l, omega arith, tt)
rises-push low high t (s ∷ ts) l m h =
    let k : s ≤ high = h.1 in
    (h.0, omega (arith, k, m), rises-push s high t ts (omega (arith, k, m)) m h.2)

-- what changes at the end
pub rises-tail : (low high more : ℕ) (ts old new : List ℕ) → high ≤ more → low ≤ high
    → ((from : ℕ) → from ≤ high → Rises from high old → Rises from more new) → Rises low high (ts ++ old) → Rises low more (ts ++ new)
rises-tail low high more [] old new le few step h = step low few h
rises-tail low high more (t ∷ ts) old new le few step h =
    let k : t ≤ high = h.1 in
    (h.0, omega (arith, k, le), rises-tail t high more ts old new le k step h.2)

rises-filter : {A : Type 0} (f : A → ℕ) (p : A → Bool) (low high : ℕ) (xs : List A) → Rises low high (map f xs) → Rises low high (map f (filter p xs))
rises-filter f p low high [] h = tt
rises-filter f p low high (x ∷ xs) h =
    let rest = rises-filter f p (f x) high xs h.2 in
    let k : low < f x = h.0 in
    elim (cases_Bool (p x)) [
      | inl t ↦ rw t (h.0, h.1, rest)
      | inr u ↦ rw u (rises-lower (f x) low high (map f (filter p xs)) (omega (arith, k)) rest)
    ]

all-above : {A : Type 0} (f : A → ℕ) (low high least : ℕ) (xs : List A) → least ≤ low → Rises low high (map f xs) → All (λ y. least < f y) xs
all-above {A = A} f low high least [] le h = All-nil (λ (y : A). least < f y)
all-above {A = A} f low high least (x ∷ xs) le h =
    let k : low < f x = h.0 in
    All-cons (λ (y : A). least < f y) x xs (omega (arith, k, le)) (all-above f (f x) high least xs (omega (arith, k, le)) h.2)

all-nothing : {A : Type 0} (R : A → A → Type 0) → let none : List A = [] in AllPairs R none
all-nothing R i j d before inside = absurd (omega (arith, inside))

pub pairs-rise : {A : Type 0} (f : A → ℕ) (low high : ℕ) (xs : List A) → Rises low high (map f xs) → AllPairs (λ x y. f x < f y) xs
pairs-rise {A = A} f low high [] h = all-nothing (λ (x y : A). f x < f y)
pairs-rise {A = A} f low high (x ∷ xs) h =
    AllPairs-cons (λ (x y : A). f x < f y) x xs (all-above f (f x) high (f x) xs (omega arith) h.2) (pairs-rise f (f x) high xs h.2)

-- ---- how often one is among them

abbrev pub times_of : ℕ → List ℕ → ℕ
times_of time ts = count_by (λ t. t == time) ts

pub times_of-append : (time : ℕ) (ts more : List ℕ) → times_of time (ts ++ more) ≡ times_of time ts + times_of time more
times_of-append time ts more = sum_by-append (λ (t : ℕ). cond (t == time) 1 0) ts more

abbrev pub once_if : Bool → ℕ
once_if is = if is then 1 else 0

times_of-filter : {A : Type 0} (f : A → ℕ) (p : A → Bool) (time : ℕ) (xs : List A) → times_of time (map f (filter p xs)) ≤ times_of time (map f xs)
times_of-filter f p time [] = omega arith
times_of-filter f p time (x ∷ xs) =
    let rest = times_of-filter f p time xs in
    let all = sum_by-cons (λ (t : ℕ). cond (t == time) 1 0) (f x) (map f xs) in
    let some = sum_by-cons (λ (t : ℕ). cond (t == time) 1 0) (f x) (map f (filter p xs)) in
    elim (cases_Bool (p x)) [
      | inl t ↦ rw t (omega (arith, rest, all, some))
      | inr u ↦ rw u (omega (arith, rest, all))
    ]

-- ---- the timestamps that a ring keeps

abbrev pub kept_times : ℕ → ℕ → List Event → List ℕ
kept_times pages page_bytes events = map (λ r. timestamp r.rec) (readings_of pages page_bytes events)

abbrev time_of : Accepted → ℕ
time_of r = timestamp r.bytes

-- a later record more
pub rises-put : (pages page_bytes : ℕ) (events : List Event) (bytes : List ℕ) (overwrite : Bool) (low high : ℕ) → low ≤ high → high < timestamp bytes
    → Rises low high (kept_times pages page_bytes events)
    → Rises low (timestamp bytes) (kept_times pages page_bytes (events ++ Put bytes overwrite ∷ []))
rises-put pages page_bytes events bytes overwrite low high few later h = by (kept-put pages page_bytes events bytes overwrite)
  where
    before : List Accepted
    before = kept page_bytes (account pages page_bytes events)

    now_kept : List Accepted
    now_kept = kept page_bytes (account pages page_bytes (events ++ Put bytes overwrite ∷ []))

    was : Rises low high (map time_of before)
    was = subst (Rises low high) (readings-map timestamp pages page_bytes events) h

    back : Rises low (timestamp bytes) (map time_of now_kept) → Rises low (timestamp bytes) (kept_times pages page_bytes (events ++ Put bytes overwrite ∷ []))
    back k = subst (Rises low (timestamp bytes)) (sym (readings-map timestamp pages page_bytes (events ++ Put bytes overwrite ∷ []))) k

    by : (now_kept ≡ before) ⊎ IsLeft page_bytes (account pages page_bytes events) bytes now_kept
        → Rises low (timestamp bytes) (kept_times pages page_bytes (events ++ Put bytes overwrite ∷ []))
    by (inl same) =
        back (subst (λ (rs : List Accepted). Rises low (timestamp bytes) (map time_of rs)) (sym same)
        (rises-higher low high (timestamp bytes) (map time_of before) (omega (arith, later)) was))
    by (inr left) =
        let new = next_record page_bytes (account pages page_bytes events) bytes in
        let all : Rises low (timestamp bytes) (map time_of before ++ timestamp bytes ∷ []) =
        rises-push low high (timestamp bytes) (map time_of before) (omega (arith, few, later)) later was in
        let mapped : Rises low (timestamp bytes) (map time_of (before ++ new ∷ [])) =
        subst (Rises low (timestamp bytes)) (sym (map-append time_of before (new ∷ []))) all in
        back (subst (λ (rs : List Accepted). Rises low (timestamp bytes) (map time_of rs)) (sym left.is)
        (rises-filter time_of left.test low (timestamp bytes) (before ++ new ∷ []) mapped))

pub times_of-put : (pages page_bytes : ℕ) (events : List Event) (bytes : List ℕ) (overwrite : Bool) (time : ℕ)
    → times_of time (kept_times pages page_bytes (events ++ Put bytes overwrite ∷ []))
    ≤ times_of time (kept_times pages page_bytes events) + once_if (timestamp bytes == time)
times_of-put pages page_bytes events bytes overwrite time = by (kept-put pages page_bytes events bytes overwrite)
  where
    before : List Accepted
    before = kept page_bytes (account pages page_bytes events)

    now_kept : List Accepted
    now_kept = kept page_bytes (account pages page_bytes (events ++ Put bytes overwrite ∷ []))

    was : times_of time (kept_times pages page_bytes events) ≡ times_of time (map time_of before)
    was = ap (times_of time) (readings-map timestamp pages page_bytes events)

    now : times_of time (kept_times pages page_bytes (events ++ Put bytes overwrite ∷ [])) ≡ times_of time (map time_of now_kept)
    now = ap (times_of time) (readings-map timestamp pages page_bytes (events ++ Put bytes overwrite ∷ []))

    by : (now_kept ≡ before) ⊎ IsLeft page_bytes (account pages page_bytes events) bytes now_kept
        → times_of time (kept_times pages page_bytes (events ++ Put bytes overwrite ∷ []))
        ≤ times_of time (kept_times pages page_bytes events) + once_if (timestamp bytes == time)
    by (inl same) =
        let e = ap (λ (rs : List Accepted). times_of time (map time_of rs)) same in
        omega (arith, was, now, e)
    by (inr left) =
        let new = next_record page_bytes (account pages page_bytes events) bytes in
        let e = ap (λ (rs : List Accepted). times_of time (map time_of rs)) left.is in
        let few = times_of-filter time_of left.test time (before ++ new ∷ []) in
        let parts = ap (times_of time) (map-append time_of before (new ∷ [])) ∙ times_of-append time (map time_of before) (timestamp bytes ∷ []) in
        let one : times_of time (timestamp bytes ∷ []) ≡ once_if (timestamp bytes == time) = zero-add (once_if (timestamp bytes == time)) in
        omega (arith, was, now, e, few, parts, one)
