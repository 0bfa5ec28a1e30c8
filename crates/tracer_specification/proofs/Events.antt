-- Declared events by name and by number.
use Rattle.std.proofs.Common.{◌≡◌, ℕ, zero, suc, ◌+◌, ◌-◌, ◌<◌, Bool, true, false, cond, ltb, List, [], ◌∷◌, ◌++◌, length, get_or, slice_get, position, bytes_eq, Option, None, Some, option_map, refl, sym, ap, ◌∙◌, subst, arith}
use Rattle.std.specs.List.{AllByRecursion, position_or_len}
use Rattle.std.proofs.lemmas.Bool.Decides.{nat_tests}
use Rattle.std.proofs.lemmas.List.Quantifiers.{position-Some}
use Rattle.std.proofs.lemmas.Option.{get_or_from_slice_get}
use Rattle.trace_format.specs.Catalogs.{id_of, event_of}
use Rattle.trace_format.specs.Definitions.{Definition}
use Rattle.tracer_specification.specs.Settings.{NumberedEvent, event_named_in}
use Rattle.tracer_specification.specs.Declarations.{IsIndexOf, IsFit}

-- the event of a name among those after others
abbrev pub found_from : ℕ → List ℕ → List Definition → Option NumberedEvent
found_from id name [] = None
found_from id name (event ∷ events) = cond (bytes_eq name event.name) (Some (record { id = id; event = event })) (found_from (id + 1) name events)

-- the index of a name, or the number of events
index : List ℕ → List Definition → ℕ
index name events = position_or_len (λ (event : Definition). bytes_eq name event.name) events

index-none : (name : List ℕ) → index name [] ≡ 0
unfolding index
index-none name = refl

index-first : (name : List ℕ) (event : Definition) (events : List Definition) → bytes_eq name event.name ≡ true → index name (event ∷ events) ≡ 0
unfolding index
index-first name event events is = rw is refl

index-next : (name : List ℕ) (event : Definition) (events : List Definition) → bytes_eq name event.name ≡ false
    → index name (event ∷ events) ≡ suc (index name events)
unfolding index
index-next name event events is = rw is (omega arith)

id-is_index : (name : List ℕ) (events : List Definition)
    → id_of events name ≡ option_map (λ (i : ℕ). i + 1) (cond (ltb (index name events) (length events)) (Some (index name events)) None)
unfolding index
id-is_index name events = refl

ltb-next : (p n : ℕ) → ltb (suc p) (suc n) ≡ ltb p n
ltb-next p n = grind (arith, nat_tests)

-- the event at an index, as found
at_index : ℕ → ℕ → List Definition → Option NumberedEvent
at_index id p events = cond (ltb p (length events)) (option_map (λ (e : Definition). record { id = id + p; event = e }) (slice_get events p)) None

at_index-first : (id : ℕ) (event : Definition) (events : List Definition) → at_index id 0 (event ∷ events) ≡ Some (record { id = id; event = event })
unfolding at_index
at_index-first id event events =
    let inside : ltb 0 (suc (length events)) ≡ true = grind (arith, nat_tests) in
    rw inside (ap (λ (n : ℕ). Some (let k : NumberedEvent = record { id = n; event = event } in k)) (omega arith))

at_index-next : (id p : ℕ) (event : Definition) (events : List Definition) → at_index id (suc p) (event ∷ events) ≡ at_index (id + 1) p events
unfolding at_index
at_index-next id p event events =
    let next : id + suc p ≡ id + 1 + p = omega arith in
    rw (ltb-next p (length events), next) refl

found_at : (id : ℕ) (name : List ℕ) (events : List Definition) → found_from id name events ≡ at_index id (index name events) events
unfolding at_index
found_at id name [] = rw (index-none name) refl
found_at id name (event ∷ events) = by_name (bytes_eq name event.name) refl (found_at (id + 1) name events)
  where
    by_name : (same : Bool) → bytes_eq name event.name ≡ same → found_from (id + 1) name events ≡ at_index (id + 1) (index name events) events
        → found_from id name (event ∷ events) ≡ at_index id (index name (event ∷ events)) (event ∷ events)
    by_name true is rest = rw (is, index-first name event events is) (sym (at_index-first id event events))
    by_name false is rest = rw (is, index-next name event events is) (rest ∙ sym (at_index-next id (index name events) event events))

pub named_in-found : (name : List ℕ) (events : List Definition) → event_named_in events name ≡ found_from 1 name events
unfolding at_index
named_in-found name events = by_index (ltb (index name events) (length events)) refl
  where
    by_index : (inside : Bool) → ltb (index name events) (length events) ≡ inside → event_named_in events name ≡ found_from 1 name events
    by_index true is =
        let next : index name events + 1 ≡ suc (index name events) = omega arith in
        let last : 1 + index name events ≡ suc (index name events) = omega arith in
        rw (found_at 1 name events, id-is_index name events, is, next, last) refl
    by_index false is = rw (found_at 1 name events, id-is_index name events, is) refl

-- an event that is not among more events is not among fewer
found-fewer : (id : ℕ) (name : List ℕ) (events more : List Definition) → found_from id name (events ++ more) ≡ None → found_from id name events ≡ None
found-fewer id name [] more none = refl
found-fewer id name (event ∷ events) more none = by_name (bytes_eq name event.name) refl (found-fewer (id + 1) name events more) none
  where
    by_name : (same : Bool) → bytes_eq name event.name ≡ same
        → (found_from (id + 1) name (events ++ more) ≡ None → found_from (id + 1) name events ≡ None)
        → found_from id name ((event ∷ events) ++ more) ≡ None → found_from id name (event ∷ events) ≡ None
    by_name true is fewer found = absurd (let h = rw is at found in cc)
    by_name false is fewer found = rw is (fewer (rw is at found))

pub named_in-fewer : (name : List ℕ) (events more : List Definition) → event_named_in (events ++ more) name ≡ None → event_named_in events name ≡ None
named_in-fewer name events more none =
    named_in-found name events ∙ found-fewer 1 name events more (sym (named_in-found name (events ++ more)) ∙ none)

-- the number of a name is one more than its index
from_next : (o : Option ℕ) (i : ℕ) → option_map (λ (n : ℕ). n + 1) o ≡ Some (suc i) → o ≡ Some i
from_next None i is = absurd (cc)
from_next (Some n) i is =
    let e : n + 1 ≡ suc i = cc in
    ap Some (omega (arith, e))

id-position : (events : List Definition) (name : List ℕ) (i : ℕ) → id_of events name ≡ Some (suc i)
    → position (λ (e : Definition). bytes_eq name e.name) events ≡ Some i
id-position events name i is = from_next _ i is

-- an event that was found by its name is at its index
pub index_of_id : (events : List Definition) (name : List ℕ) (id : ℕ) (event : Definition) → id_of events name ≡ Some id → event_of events id ≡ Some event
    → IsIndexOf events name (id - 1) event
index_of_id events name zero event named there = absurd (let h : None ≡ Some event = there in cc)
index_of_id events name (suc i) event named there =
    let at : position (λ (e : Definition). bytes_eq name e.name) events ≡ Some i = id-position events name i named in
    let found = position-Some (λ (e : Definition). bytes_eq name e.name) events i event at in
    let is : get_or events i event ≡ event = get_or_from_slice_get events i event event there in
    let less : suc i - 1 ≡ i = omega arith in
    rw less (record {
      inside = found.0;
      there = sym is;
      named = ap (λ (e : Definition). bytes_eq name e.name) (sym is) ∙ found.1;
    })

-- each event is fit
pub fit_at : (page_bytes : ℕ) (events : List Definition) (i : ℕ) (event : Definition) → AllByRecursion (IsFit page_bytes) events → i < length events
    → event ≡ get_or events i event → IsFit page_bytes event
fit_at page_bytes [] i event all within at = absurd (omega arith)
fit_at page_bytes (e ∷ events) zero event all within at = subst (IsFit page_bytes) (sym at) all.0
fit_at page_bytes (e ∷ events) (suc i) event all within at = fit_at page_bytes events i event all.1 (omega arith) at

pub fit-push : (page_bytes : ℕ) (events : List Definition) (event : Definition) → AllByRecursion (IsFit page_bytes) events → IsFit page_bytes event
    → AllByRecursion (IsFit page_bytes) (events ++ event ∷ [])
fit-push page_bytes [] event all fit = (fit, tt)
fit-push page_bytes (e ∷ events) event all fit = (all.0, fit-push page_bytes events event all.1 fit)
