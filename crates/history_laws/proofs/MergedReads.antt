-- Reads of the earliest record, one after another, give the merged order, where each list rises.
use Rattle.std.proofs.Common.{◌≡◌, inl, inr, ℕ, zero, suc, ◌+◌, ◌<◌, ◌≤◌, ltb, Bool, true, false, cond, List, [], ◌∷◌, ◌++◌, map, take, drop, set, get_or, Option, Some, None, refl, sym, ap, ◌∙◌, subst, arith}
use Rattle.std.specs.List.{AllByRecursion}
use Rattle.std.proofs.lemmas.Bool.{cases_Bool, cond-true, cond-false, ltb-true, ltb-false}
use Rattle.std.proofs.lemmas.List.{append_assoc}
use Rattle.trace_record.specs.Record.{timestamp}
use Rattle.page_ring.specs.Account.{Reading, readings_of}
use Rattle.page_ring.specs.Events.{Event}
use Rattle.trace_buffer.specs.Families.{CpuReading, on_cpu}
use Rattle.trace_buffer.specs.Orders.{Candidate, before_later, by_timestamp, candidate, earlier, kept_from}
use Rattle.trace_buffer.specs.private.Nexts.{candidate_of, taken_in_order}
use Rattle.trace_buffer.proofs.NextReads.{cases_Option, taken_in_order-none, taken_in_order-some}

-- ---- lists of records

abbrev time : CpuReading → ℕ
time r = timestamp r.rec

-- the records of lists, one CPU after another, where the first list is that of this CPU
abbrev pub all_from : ℕ → List (List Reading) → List CpuReading
all_from cpu [] = []
all_from cpu (readings ∷ lists) = map (on_cpu cpu) readings ++ all_from (cpu + 1) lists

pub all_from-kept : (pages page_bytes cpu : ℕ) (family : List (List Event)) → all_from cpu (map (readings_of pages page_bytes) family) ≡ kept_from pages page_bytes cpu family
all_from-kept pages page_bytes cpu [] = refl
all_from-kept pages page_bytes cpu (events ∷ family) =
    ap (λ (l : List CpuReading). map (on_cpu cpu) (readings_of pages page_bytes events) ++ l) (all_from-kept pages page_bytes (cpu + 1) family)

-- none is before a time, or at it
abbrev AreFrom : ℕ → List CpuReading → Type 0
AreFrom least rs = AllByRecursion (λ (r : CpuReading). least ≤ time r) rs

abbrev AreAfter : ℕ → List CpuReading → Type 0
AreAfter before rs = AllByRecursion (λ (r : CpuReading). before < time r) rs

-- a list doesn't fall
abbrev pub IsUp : List Reading → Type 0
IsUp [] = Unit {0}
IsUp (r ∷ rest) = AllByRecursion (λ (s : Reading). timestamp r.rec ≤ timestamp s.rec) rest × IsUp rest

are_from-append : (least : ℕ) (xs ys : List CpuReading) → AreFrom least xs → AreFrom least ys → AreFrom least (xs ++ ys)
are_from-append least [] ys h k = k
are_from-append least (x ∷ xs) ys h k = (h.0, are_from-append least xs ys h.1 k)

are_after-append : (before : ℕ) (xs ys : List CpuReading) → AreAfter before xs → AreAfter before ys → AreAfter before (xs ++ ys)
are_after-append before [] ys h k = k
are_after-append before (x ∷ xs) ys h k = (h.0, are_after-append before xs ys h.1 k)

are_from-lower : (least less : ℕ) (rs : List CpuReading) → less ≤ least → AreFrom least rs → AreFrom less rs
are_from-lower least less [] le h = tt
are_from-lower least less (r ∷ rs) le h = let here : least ≤ time r = h.0 in (omega (arith, here, le), are_from-lower least less rs le h.1)

are_after-from : (before : ℕ) (rs : List CpuReading) → AreAfter before rs → AreFrom before rs
are_after-from before [] h = tt
are_after-from before (r ∷ rs) h = let here : before < time r = h.0 in (omega (arith, here), are_after-from before rs h.1)

are_from-on_cpu : (cpu least : ℕ) (readings : List Reading) → AllByRecursion (λ (s : Reading). least ≤ timestamp s.rec) readings
    → AreFrom least (map (on_cpu cpu) readings)
are_from-on_cpu cpu least [] h = tt
are_from-on_cpu cpu least (r ∷ readings) h = (h.0, are_from-on_cpu cpu least readings h.1)

are_after-on_cpu : (cpu before : ℕ) (r : Reading) (rest : List Reading) → before < timestamp r.rec → IsUp (r ∷ rest)
    → AreAfter before (map (on_cpu cpu) (r ∷ rest))
are_after-on_cpu cpu before r rest l up = (l, others rest up.0)
  where
    others : (rest : List Reading) → AllByRecursion (λ (s : Reading). timestamp r.rec ≤ timestamp s.rec) rest → AreAfter before (map (on_cpu cpu) rest)
    others [] h = tt
    others (s ∷ rest) h = let here : timestamp r.rec ≤ timestamp s.rec = h.0 in (omega (arith, here, l), others rest h.1)

-- ---- a record that is the earliest of all, in merged order

are_from-put : (least : ℕ) (r : CpuReading) (rs : List CpuReading) → least ≤ time r → AreFrom least rs → AreFrom least (before_later r rs)
are_from-put least r [] le h = (le, tt)
are_from-put least r (s ∷ rest) le h =
    elim (ltb (time s) (time r)) as (λ (b : Bool). AreFrom least (cond b (s ∷ before_later r rest) (r ∷ s ∷ rest))) [
      | true ↦ (h.0, are_from-put least r rest le h.1)
      | false ↦ (le, h)
    ]

are_from-merged : (least : ℕ) (rs : List CpuReading) → AreFrom least rs → AreFrom least (by_timestamp rs)
are_from-merged least [] h = tt
are_from-merged least (r ∷ rs) h = are_from-put least r (by_timestamp rs) h.0 (are_from-merged least rs h.1)

-- it comes first where none of those after it is earlier
put-first : (c : CpuReading) (rs : List CpuReading) → AreFrom (time c) rs → before_later c rs ≡ c ∷ rs
put-first c [] h = refl
put-first c (s ∷ rest) h = elim (cases_Bool (ltb (time s) (time c))) [
  | inl sooner ↦ absurd (let l = ltb-true _ _ sooner in let le : time c ≤ time s = h.0 in omega (arith, l, le))
  | inr later ↦ cond-false _ (s ∷ before_later c rest) (c ∷ s ∷ rest) later
]

-- and all of those before it are later
put-behind : (c r : CpuReading) (rs : List CpuReading) → time c < time r → before_later r (c ∷ rs) ≡ c ∷ before_later r rs
put-behind c r rs l = elim (cases_Bool (ltb (time c) (time r))) [
  | inl sooner ↦ cond-true _ (c ∷ before_later r rs) (r ∷ c ∷ rs) sooner
  | inr later ↦ absurd (let le = ltb-false _ _ later in omega (arith, l, le))
]

merged-first : (c : CpuReading) (before after : List CpuReading) → AreAfter (time c) before → AreFrom (time c) after
    → by_timestamp (before ++ c ∷ after) ≡ c ∷ by_timestamp (before ++ after)
merged-first c [] after strict weak = put-first c (by_timestamp after) (are_from-merged (time c) after weak)
merged-first c (r ∷ before) after strict weak =
    ap (before_later r) (merged-first c before after strict.1 weak) ∙ put-behind c r (by_timestamp (before ++ after)) strict.0

-- ---- the earliest of lists

abbrev without : ℕ → List (List Reading) → List (List Reading)
without place lists = set lists place (drop 1 (get_or lists place []))

record IsCut (from : ℕ) (lists : List (List Reading)) (c : Candidate) : Type 0 where
  place : ℕ
  cpu : c.cpu ≡ from + place
  before : List CpuReading
  after : List CpuReading
  all : all_from from lists ≡ before ++ on_cpu c.cpu c.first ∷ after
  left : all_from from (without place lists) ≡ before ++ after
  strict : AreAfter (timestamp c.first.rec) before
  weak : AreFrom (timestamp c.first.rec) after

none-left : (from : ℕ) (lists : List (List Reading)) → candidate_of from lists ≡ None → all_from from lists ≡ []
none-left from [] e = refl
none-left from ([] ∷ lists) e = none-left (from + 1) lists e
none-left from ((r ∷ rest) ∷ lists) e = absurd (some_earlier (candidate_of (from + 1) lists) e)
  where
    some_earlier : (later : Option Candidate) → earlier (candidate from (r ∷ rest)) later ≡ None → ⊥
    some_earlier None e = cc
    some_earlier (Some d) e = elim (cases_Bool (ltb (timestamp d.first.rec) (timestamp r.rec))) [
      | inl sooner ↦ let e' = sym (cond-true _ (Some d) (candidate from (r ∷ rest)) sooner) ∙ e in cc
      | inr later ↦ let e' = sym (cond-false _ (Some d) (candidate from (r ∷ rest)) later) ∙ e in cc
    ]

-- the first of the first list, where nothing after it is earlier
cut-here : (from : ℕ) (r : Reading) (rest : List Reading) (lists : List (List Reading)) → IsUp (r ∷ rest)
    → AreFrom (timestamp r.rec) (all_from (from + 1) lists) → IsCut from ((r ∷ rest) ∷ lists) (record { cpu = from; first = r })
cut-here from r rest lists up others = record {
  place = zero;
  cpu = omega arith;
  before = [];
  after = map (on_cpu from) rest ++ all_from (from + 1) lists;
  all = refl;
  left = refl;
  strict = tt;
  weak = are_from-append (timestamp r.rec) (map (on_cpu from) rest) (all_from (from + 1) lists) (are_from-on_cpu from (timestamp r.rec) rest up.0) others;
}

-- one of the lists after the first
cut-later : (from : ℕ) (readings : List Reading) (lists : List (List Reading)) (c : Candidate)
    → AreAfter (timestamp c.first.rec) (map (on_cpu from) readings) → IsCut (from + 1) lists c → IsCut from (readings ∷ lists) c
cut-later from readings lists c later cut =
    let here = map (on_cpu from) readings in
    record {
      place = suc cut.place;
      cpu = omega (arith, cut.cpu);
      before = here ++ cut.before;
      after = cut.after;
      all = ap (λ (l : List CpuReading). here ++ l) cut.all ∙ sym (append_assoc here cut.before (on_cpu c.cpu c.first ∷ cut.after));
      left = ap (λ (l : List CpuReading). here ++ l) cut.left ∙ sym (append_assoc here cut.before cut.after);
      strict = are_after-append (timestamp c.first.rec) here cut.before later cut.strict;
      weak = cut.weak;
    }

least-of-all : (from : ℕ) (lists : List (List Reading)) (c : Candidate) → IsCut from lists c → AreFrom (timestamp c.first.rec) (all_from from lists)
least-of-all from lists c cut =
    subst (AreFrom (timestamp c.first.rec)) (sym cut.all)
    (are_from-append (timestamp c.first.rec) cut.before (on_cpu c.cpu c.first ∷ cut.after) (are_after-from (timestamp c.first.rec) cut.before cut.strict)
    (omega arith, cut.weak))

cut-of : (from : ℕ) (lists : List (List Reading)) (c : Candidate) → AllByRecursion IsUp lists → candidate_of from lists ≡ Some c → IsCut from lists c
cut-of from [] c up e = cc
cut-of from ([] ∷ lists) c up e = cut-later from [] lists c tt (cut-of (from + 1) lists c up.1 e)
cut-of from ((r ∷ rest) ∷ lists) c up e =
    let here : Candidate = record { cpu = from; first = r } in
    let own : IsUp (r ∷ rest) = up.0 in
    elim (cases_Option (candidate_of (from + 1) lists)) [
      | inl none ↦
          let is : Some here ≡ Some c = sym (ap (earlier (Some here)) none) ∙ e in
          let same : here ≡ c = cc in
          subst (IsCut from ((r ∷ rest) ∷ lists)) same
          (cut-here from r rest lists own (subst (AreFrom (timestamp r.rec)) (sym (none-left (from + 1) lists none)) tt))
      | inr found ↦
          let d = found.0 in
          let later = cut-of (from + 1) lists d up.1 found.1 in
          let is : earlier (Some here) (Some d) ≡ Some c = sym (ap (earlier (Some here)) found.1) ∙ e in
          elim (cases_Bool (ltb (timestamp d.first.rec) (timestamp r.rec))) [
            | inl sooner ↦
                let taken : Some d ≡ Some c = sym (cond-true _ (Some d) (Some here) sooner) ∙ is in
                let same : d ≡ c = cc in
                subst (IsCut from ((r ∷ rest) ∷ lists)) same
                (cut-later from (r ∷ rest) lists d (are_after-on_cpu from (timestamp d.first.rec) r rest (ltb-true _ _ sooner) own) later)
            | inr no_sooner ↦
                let taken : Some here ≡ Some c = sym (cond-false _ (Some d) (Some here) no_sooner) ∙ is in
                let same : here ≡ c = cc in
                subst (IsCut from ((r ∷ rest) ∷ lists)) same
                (cut-here from r rest lists own
                (are_from-lower (timestamp d.first.rec) (timestamp r.rec) (all_from (from + 1) lists) (ltb-false _ _ no_sooner)
                (least-of-all (from + 1) lists d later)))
          ]
    ]

-- ---- so many reads

up-drop : (readings : List Reading) → IsUp readings → IsUp (drop 1 readings)
up-drop [] up = tt
up-drop (r ∷ rest) up = up.1

up-without : (place : ℕ) (lists : List (List Reading)) → AllByRecursion IsUp lists → AllByRecursion IsUp (without place lists)
up-without place [] up = tt
up-without zero (readings ∷ lists) up = (up-drop readings up.0, up.1)
up-without (suc place) (readings ∷ lists) up = (up.0, up-without place lists up.1)

pub taken_in_order-merged : (reads : ℕ) (lists : List (List Reading)) → AllByRecursion IsUp lists
    → taken_in_order reads lists ≡ take reads (by_timestamp (all_from 0 lists))
taken_in_order-merged zero lists up = refl
taken_in_order-merged (suc reads) lists up =
    elim (cases_Option (candidate_of 0 lists)) [
      | inl none ↦
          taken_in_order-none (suc reads) lists none
          ∙ ap (λ (l : List CpuReading). take (suc reads) (by_timestamp l)) (sym (none-left 0 lists none))
      | inr found ↦
          let c = found.0 in
          let cut = cut-of 0 lists c up found.1 in
          let place : c.cpu ≡ cut.place = omega (arith, cut.cpu) in
          let rest = taken_in_order-merged reads (without c.cpu lists) (up-without c.cpu lists up) in
          let left : all_from 0 (without c.cpu lists) ≡ cut.before ++ cut.after =
          ap (λ (k : ℕ). all_from 0 (without k lists)) place ∙ cut.left in
          let merged : by_timestamp (all_from 0 lists) ≡ on_cpu c.cpu c.first ∷ by_timestamp (all_from 0 (without c.cpu lists)) =
          ap by_timestamp cut.all ∙ merged-first (on_cpu c.cpu c.first) cut.before cut.after cut.strict cut.weak
          ∙ ap (λ (l : List CpuReading). on_cpu c.cpu c.first ∷ by_timestamp l) (sym left) in
          taken_in_order-some reads lists c found.1 ∙ ap (λ (l : List CpuReading). on_cpu c.cpu c.first ∷ l) rest
          ∙ ap (take (suc reads)) (sym merged)
    ]
