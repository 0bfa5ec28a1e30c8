-- Which CPU's first record is the earliest.
use Rattle.std.proofs.Common.{◌≡◌, ℕ, zero, suc, ◌+◌, ◌<◌, ◌≤◌, ltb, Bool, true, false, cond, ◌⊎◌, inl, inr, List, [], ◌∷◌, length, map, get_or, set, drop, Option, Some, None, IfSome, refl, sym, ap, ◌∙◌, subst, arith}
use Rattle.std.specs.Option.{option_map}
use Rattle.std.proofs.lemmas.Bool.{cases_Bool, cond-true, cond-false, ltb-true, ltb-false}
use Rattle.std.proofs.lemmas.List.{drop_more, drop_all, get_or_default}
use Rattle.trace_record.specs.Record.{timestamp}
use Rattle.page_ring.specs.Account.{Reading, readings_of, first}
use Rattle.page_ring.specs.Events.{Event}
use Rattle.trace_buffer.specs.Families.{on_cpu}
use Rattle.trace_buffer.specs.Orders.{Candidate, candidate, earlier, next_from}
use Rattle.trace_buffer.specs.private.Nexts.{sooner_of, first_time, next_of, candidate_of, without_first_of, taken_in_order}
use Rattle.trace_buffer.specs.declared.times.Next.{Next}

-- a candidate without its record
abbrev pub timed : Candidate → Next
timed c = record { cpu = c.cpu; ts = timestamp c.first.rec }

pub cases_Option : {X : Type 0} (o : Option X) → (o ≡ None) ⊎ ((x : X) × (o ≡ Some x))
cases_Option None = inl refl
cases_Option (Some x) = inr (x, refl)

timed-cond : (b : Bool) (c d : Candidate) → option_map timed (cond b (Some d) (Some c)) ≡ cond b (Some (timed d)) (Some (timed c))
timed-cond true c d = refl
timed-cond false c d = refl

timed-earlier : (cpu : ℕ) (readings : List Reading) (later : Option Candidate)
    → sooner_of cpu (first_time readings) (option_map timed later) ≡ option_map timed (earlier (candidate cpu readings) later)
timed-earlier cpu [] later = refl
timed-earlier cpu (r ∷ rest) None = refl
timed-earlier cpu (r ∷ rest) (Some d) =
    sym (timed-cond (ltb (timestamp d.first.rec) (timestamp r.rec)) (record { cpu = cpu; first = r }) d)

pub next_of-candidate : (cpu : ℕ) (lists : List (List Reading)) → next_of cpu lists ≡ option_map timed (candidate_of cpu lists)
next_of-candidate cpu [] = refl
next_of-candidate cpu (readings ∷ lists) =
    ap (sooner_of cpu (first_time readings)) (next_of-candidate (cpu + 1) lists) ∙ timed-earlier cpu readings (candidate_of (cpu + 1) lists)

pub candidate_of-map : (pages page_bytes cpu : ℕ) (family : List (List Event))
    → candidate_of cpu (map (readings_of pages page_bytes) family) ≡ next_from pages page_bytes cpu family
candidate_of-map pages page_bytes cpu [] = refl
candidate_of-map pages page_bytes cpu (events ∷ family) =
    ap (earlier (candidate cpu (readings_of pages page_bytes events))) (candidate_of-map pages page_bytes (cpu + 1) family)

-- with no candidate no list has a record
pub candidate_of-none : (cpu : ℕ) (lists : List (List Reading)) (k : ℕ) → candidate_of cpu lists ≡ None → get_or lists k [] ≡ []
candidate_of-none cpu [] k e = refl
candidate_of-none cpu ([] ∷ lists) zero e = refl
candidate_of-none cpu ([] ∷ lists) (suc k) e = candidate_of-none (cpu + 1) lists k e
candidate_of-none cpu ((r ∷ rest) ∷ lists) k e = absurd (some_earlier cpu r (candidate_of (cpu + 1) lists) e)
  where
    some_earlier : (cpu : ℕ) (r : Reading) (later : Option Candidate) → earlier (Some (record { cpu = cpu; first = r })) later ≡ None → ⊥
    some_earlier cpu r None e = cc
    some_earlier cpu r (Some d) e =
        elim (cases_Bool (ltb (timestamp d.first.rec) (timestamp r.rec))) [
          | inl sooner ↦ let e' = sym (cond-true _ (Some d) (Some (record { cpu = cpu; first = r })) sooner) ∙ e in cc
          | inr later ↦ let e' = sym (cond-false _ (Some d) (Some (record { cpu = cpu; first = r })) later) ∙ e in cc
        ]

-- a candidate's record is the first of its list, none is earlier, and those of lower CPUs are later
pub record IsEarliestOf (from : ℕ) (lists : List (List Reading)) (c : Candidate) : Type 0 where
  pub place : ℕ
  pub cpu : c.cpu ≡ from + place
  pub inside : place < length lists
  pub begins : first (get_or lists place []) ≡ Some c.first
  pub others : (k : ℕ) (r : Reading) → first (get_or lists k []) ≡ Some r → timestamp c.first.rec ≤ timestamp r.rec
  pub lower : (k : ℕ) (r : Reading) → k < place → first (get_or lists k []) ≡ Some r → timestamp c.first.rec < timestamp r.rec

-- a list with no record, in front of others
past_empty : (from : ℕ) (lists : List (List Reading)) (c : Candidate) → IsEarliestOf (from + 1) lists c → IsEarliestOf from ([] ∷ lists) c
past_empty from lists c e = record {
  place = suc e.place;
  cpu = omega (arith, e.cpu);
  inside = omega (arith, e.inside);
  begins = e.begins;
  others = others;
  lower = lower;
}
  where
    others : (k : ℕ) (r : Reading) → first (get_or ([] ∷ lists) k []) ≡ Some r → timestamp c.first.rec ≤ timestamp r.rec
    others zero r h = cc
    others (suc k) r h = e.others k r h

    lower : (k : ℕ) (r : Reading) → k < suc e.place → first (get_or ([] ∷ lists) k []) ≡ Some r → timestamp c.first.rec < timestamp r.rec
    lower zero r l h = cc
    lower (suc k) r l h = e.lower k r (omega arith) h

-- a list whose first record is later, in front of others
past_later : (from : ℕ) (r : Reading) (rest : List Reading) (lists : List (List Reading)) (c : Candidate)
    → timestamp c.first.rec < timestamp r.rec → IsEarliestOf (from + 1) lists c → IsEarliestOf from ((r ∷ rest) ∷ lists) c
past_later from r rest lists c later e = record {
  place = suc e.place;
  cpu = omega (arith, e.cpu);
  inside = omega (arith, e.inside);
  begins = e.begins;
  others = λ k s h. others k s h;
  lower = λ k s l h. lower k s l h;
}
  where
    same : (s : Reading) → Some r ≡ Some s → timestamp c.first.rec < timestamp s.rec
    same s h = let e' : r ≡ s = cc in subst (λ (x : Reading). timestamp c.first.rec < timestamp x.rec) e' later

    others : (k : ℕ) (s : Reading) → first (get_or ((r ∷ rest) ∷ lists) k []) ≡ Some s → timestamp c.first.rec ≤ timestamp s.rec
    others zero s h = let l = same s h in omega arith
    others (suc k) s h = e.others k s h

    lower : (k : ℕ) (s : Reading) → k < suc e.place → first (get_or ((r ∷ rest) ∷ lists) k []) ≡ Some s → timestamp c.first.rec < timestamp s.rec
    lower zero s l h = same s h
    lower (suc k) s l h = e.lower k s (omega arith) h

-- a list whose first record is no later than all others
at_front : (from : ℕ) (r : Reading) (rest : List Reading) (lists : List (List Reading))
    → ((k : ℕ) (s : Reading) → first (get_or lists k []) ≡ Some s → timestamp r.rec ≤ timestamp s.rec)
    → IsEarliestOf from ((r ∷ rest) ∷ lists) (record { cpu = from; first = r })
at_front from r rest lists below = record {
  place = zero;
  cpu = omega arith;
  inside = omega arith;
  begins = refl;
  others = others;
  lower = λ k s l h. absurd (omega arith);
}
  where
    others : (k : ℕ) (s : Reading) → first (get_or ((r ∷ rest) ∷ lists) k []) ≡ Some s → timestamp r.rec ≤ timestamp s.rec
    others zero s h = let e : r ≡ s = cc in let t = ap (λ (x : Reading). timestamp x.rec) e in omega arith
    others (suc k) s h = below k s h

pub earliest : (from : ℕ) (lists : List (List Reading)) (c : Candidate) → candidate_of from lists ≡ Some c → IsEarliestOf from lists c
earliest from [] c e = cc
earliest from ([] ∷ lists) c e = past_empty from lists c (earliest (from + 1) lists c e)
earliest from ((r ∷ rest) ∷ lists) c e =
    let here : Candidate = record { cpu = from; first = r } in
    elim (cases_Option (candidate_of (from + 1) lists)) [
      | inl none ↦
          let is : Some here ≡ Some c = sym (ap (earlier (Some here)) none) ∙ e in
          let same : here ≡ c = cc in
          subst (IsEarliestOf from ((r ∷ rest) ∷ lists)) same
          (at_front from r rest lists (λ k s h. let no_list = ap first (candidate_of-none (from + 1) lists k none) in cc))
      | inr found ↦
          let d = found.0 in
          let later = earliest (from + 1) lists d found.1 in
          let is : earlier (Some here) (Some d) ≡ Some c = sym (ap (earlier (Some here)) found.1) ∙ e in
          elim (cases_Bool (ltb (timestamp d.first.rec) (timestamp r.rec))) [
            | inl before ↦
                let taken : Some d ≡ Some c = sym (cond-true _ (Some d) (Some here) before) ∙ is in
                let same : d ≡ c = cc in
                subst (IsEarliestOf from ((r ∷ rest) ∷ lists)) same
                (past_later from r rest lists d (ltb-true _ _ before) later)
            | inr after ↦
                let taken : Some here ≡ Some c = sym (cond-false _ (Some d) (Some here) after) ∙ is in
                let same : here ≡ c = cc in
                subst (IsEarliestOf from ((r ∷ rest) ∷ lists)) same
                (at_front from r rest lists (λ k s h. let le = ltb-false _ _ after in let ge = later.others k s h in omega arith))
          ]
    ]

-- the record that the next read takes, where it is told by its CPU and timestamp
pub record IsNextOf (lists : List (List Reading)) (next : Next) : Type 0 where
  pub candidate : Candidate
  pub is : candidate_of 0 lists ≡ Some candidate
  pub cpu : candidate.cpu ≡ next.cpu
  pub inside : next.cpu < length lists
  pub begins : first (get_or lists next.cpu []) ≡ Some candidate.first

no_timed : (o : Option Candidate) → option_map timed o ≡ None → o ≡ None
no_timed None e = refl
no_timed (Some c) e = cc

some_timed : (o : Option Candidate) (next : Next) → option_map timed o ≡ Some next → (c : Candidate) × (o ≡ Some c) × (c.cpu ≡ next.cpu)
some_timed None next e = cc
some_timed (Some c) next e = let same : timed c ≡ next = cc in (c, refl, ap (λ (n : Next). n.cpu) same)

pub next_of-none : (lists : List (List Reading)) → next_of 0 lists ≡ None → candidate_of 0 lists ≡ None
next_of-none lists e = no_timed (candidate_of 0 lists) (sym (next_of-candidate 0 lists) ∙ e)

pub next_of-some : (lists : List (List Reading)) (next : Next) → next_of 0 lists ≡ Some next → IsNextOf lists next
next_of-some lists next e =
    let found = some_timed (candidate_of 0 lists) next (sym (next_of-candidate 0 lists) ∙ e) in
    let c = found.0 in
    let least = earliest 0 lists c found.1 in
    let place : least.place ≡ next.cpu = omega (arith, least.cpu, found.2) in
    record {
      candidate = c;
      is = found.1;
      cpu = found.2;
      inside = omega (arith, place, least.inside);
      begins = ap (λ (k : ℕ). first (get_or lists k [])) (sym place) ∙ least.begins;
    }

-- one CPU in front of those after it
pub next_of-drop : (lists : List (List Reading)) (cpu k : ℕ) (time : Option ℕ) (later result : Option Next) → k ≡ cpu + 1 → cpu < length lists
    → time ≡ first_time (get_or lists cpu []) → later ≡ next_of k (drop k lists) → result ≡ sooner_of cpu time later
    → result ≡ next_of cpu (drop cpu lists)
next_of-drop lists cpu k time later result e inside t l r =
    r ∙ ap (λ (x : Option ℕ). sooner_of cpu x later) t ∙ ap (sooner_of cpu (first_time (get_or lists cpu []))) l
    ∙ ap (λ (n : ℕ). sooner_of cpu (first_time (get_or lists cpu [])) (next_of n (drop n lists))) e
    ∙ ap (next_of cpu) (sym (drop_more lists cpu [] inside))

pub next_of-end : (lists : List (List Reading)) (n : ℕ) → length lists ≤ n → None ≡ next_of n (drop n lists)
next_of-end lists n past = ap (next_of n) (sym (drop_all n lists past))

pub sooner_of-below : (cpu n : ℕ) (time : Option ℕ) (later result : Option Next) → result ≡ sooner_of cpu time later → cpu < n
    → IfSome later (λ next. next.cpu < n) → IfSome result (λ next. next.cpu < n)
sooner_of-below cpu n time later result e inside below = subst (λ (o : Option Next). IfSome o (λ next. next.cpu < n)) (sym e) (go time later below)
  where
    go : (time : Option ℕ) (later : Option Next) → IfSome later (λ next. next.cpu < n) → IfSome (sooner_of cpu time later) (λ next. next.cpu < n)
    go None later below = below
    go (Some ts) None below = inside
    go (Some ts) (Some next) below =
        elim (ltb next.ts ts) as (λ (b : Bool). IfSome (cond b (Some next) (Some (record { cpu = cpu; ts = ts }))) (λ next. next.cpu < n)) [
          | true ↦ below
          | false ↦ inside
        ]

-- ---- reads of lists

pub taken_in_order-none : (reads : ℕ) (lists : List (List Reading)) → candidate_of 0 lists ≡ None → taken_in_order reads lists ≡ []
taken_in_order-none zero lists e = refl
taken_in_order-none (suc reads) lists e =
    ap (λ (o : Option Candidate). elim o [
      | None ↦ []
      | Some c ↦ on_cpu c.cpu c.first ∷ taken_in_order reads (without_first_of c.cpu lists)
    ]) e

pub taken_in_order-some : (reads : ℕ) (lists : List (List Reading)) (c : Candidate) → candidate_of 0 lists ≡ Some c
    → taken_in_order (suc reads) lists ≡ on_cpu c.cpu c.first ∷ taken_in_order reads (without_first_of c.cpu lists)
taken_in_order-some reads lists c e =
    ap (λ (o : Option Candidate). elim o [
      | None ↦ []
      | Some c ↦ on_cpu c.cpu c.first ∷ taken_in_order reads (without_first_of c.cpu lists)
    ]) e

-- the list of the next read's CPU
pub next_list : (lists : List (List Reading)) (next : Next) (list : List Reading) → IsNextOf lists next → list ≡ get_or lists next.cpu list
    → list ≡ get_or lists next.cpu []
next_list lists next list is at = at ∙ get_or_default lists next.cpu list [] is.inside

pub first_length : (list : List Reading) (r : Reading) → first list ≡ Some r → 0 < length list
first_length [] r e = cc
first_length (s ∷ rest) r e = omega arith

pub next_length : (lists : List (List Reading)) (next : Next) (list : List Reading) → IsNextOf lists next → list ≡ get_or lists next.cpu list
    → 0 < length list
next_length lists next list is at = first_length list is.candidate.first (ap first (next_list lists next list is at) ∙ is.begins)

-- what the next read takes, and then the others
pub taken_in_order-next : (lists : List (List Reading)) (next : Next) (list rest : List Reading) (r : Reading) (left reads : ℕ) → IsNextOf lists next
    → list ≡ get_or lists next.cpu list → list ≡ r ∷ rest → left ≡ suc reads
    → taken_in_order left lists ≡ on_cpu next.cpu r ∷ taken_in_order reads (set lists next.cpu rest)
taken_in_order-next lists next list rest r left reads is at parts e =
    let here = next_list lists next list is at in
    let c = is.candidate in
    let head : Some r ≡ Some c.first = ap first (sym parts ∙ here) ∙ is.begins in
    let same : r ≡ c.first = cc in
    let others : without_first_of c.cpu lists ≡ set lists next.cpu rest =
    ap (λ (cpu : ℕ). without_first_of cpu lists) is.cpu ∙ ap (λ (l : List Reading). set lists next.cpu (drop 1 l)) (sym here ∙ parts) in
    ap (λ (n : ℕ). taken_in_order n lists) e ∙ taken_in_order-some reads lists c is.is
    ∙ ap (λ (cpu : ℕ). on_cpu cpu c.first ∷ taken_in_order reads (without_first_of c.cpu lists)) is.cpu
    ∙ ap (λ (s : Reading). on_cpu next.cpu s ∷ taken_in_order reads (without_first_of c.cpu lists)) (sym same)
    ∙ ap (λ (ls : List (List Reading)). on_cpu next.cpu r ∷ taken_in_order reads ls) others
