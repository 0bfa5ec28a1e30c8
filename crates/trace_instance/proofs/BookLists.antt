-- The hist triggers of an instance in a book's lists, of each event one: those that a text leaves there are those that the requests say it leaves.
use Rattle.std.proofs.Common.{◌≡◌, ◌⊎◌, inl, inr, ℕ, zero, suc, ◌-◌, ◌<◌, ◌==◌, Bool, true, false, not, if◌then◌else◌, List, [], ◌∷◌, ◌++◌, length, map, get_or, set, refl, sym, ap, ◌∙◌, subst, arith, eq-eqb, eqb-true}
use Rattle.std.specs.List.{AllByRecursion, flat_map}
use Rattle.std.proofs.lemmas.Bool.{false_from_ne_true, false≢true}
use Rattle.std.proofs.lemmas.List.{get_or-map, get_or_default, get_or-set_other, get_or-set_same, length-map, length-set}
use Rattle.std.proofs.lemmas.Slice.Eq.{bytes_eq-Decides}
use Rattle.trace_format.specs.Catalogs.{AreEvents}
use Rattle.trace_format.specs.Definitions.{Definition}
use Rattle.trace_command.specs.Requests.{Request}
use Rattle.tracer_specification.specs.Declarations.{IsIndexOf}
use Rattle.tracer_specification.specs.HistTriggers.{HistTrigger, is_of, left_by, those_of}
use Rattle.tracer_specification.specs.Settings.{NumberedEvent, declared_events}
use Rattle.tracer_specification.proofs.EventLists.{one_index}
use Rattle.tracer_specification.proofs.Events.{index_of_id}
use Rattle.tracer_specification.proofs.LegalEvents.{named-is_numbered}
use Rattle.tracer_specification.proofs.Members.{IsIn, each-in, filter-in, in-filter}
use Rattle.tracer_specification.proofs.OwnFiles.{IsNamed}
use Rattle.trace_instance.proofs.Calm.{no_event}

-- ---- members of lists of lists

abbrev pub flat : List (List HistTrigger) → List HistTrigger
flat lists = flat_map (λ (hists : List HistTrigger). hists) lists

in-append : (t : HistTrigger) (one other : List HistTrigger) → IsIn t (one ++ other) → IsIn t one ⊎ IsIn t other
in-append t [] other there = inr there
in-append t (u ∷ one) other (inl is) = inl (inl is)
in-append t (u ∷ one) other (inr there) = elim (in-append t one other there) [ inl first ↦ inl (inr first) | inr second ↦ inr second ]

append-first : (t : HistTrigger) (one other : List HistTrigger) → IsIn t one → IsIn t (one ++ other)
append-first t [] other there = absurd there
append-first t (u ∷ one) other (inl is) = inl is
append-first t (u ∷ one) other (inr there) = inr (append-first t one other there)

append-second : (t : HistTrigger) (one other : List HistTrigger) → IsIn t other → IsIn t (one ++ other)
append-second t [] other there = there
append-second t (u ∷ one) other there = inr (append-second t one other there)

-- it is in the list at an index
record IsInAt (t : HistTrigger) (lists : List (List HistTrigger)) : Type 0 where
  index : ℕ
  inside : index < length lists
  there : IsIn t (get_or lists index [])

flat-in : (t : HistTrigger) (lists : List (List HistTrigger)) → IsIn t (flat lists) → IsInAt t lists
flat-in t [] there = absurd there
flat-in t (hists ∷ lists) there =
    elim (in-append t hists (flat lists) there) [
      | inl here ↦ record { index = 0; inside = omega arith; there = here }
      | inr further ↦ let rest = flat-in t lists further in
          let inside = rest.inside in
          record { index = suc rest.index; inside = omega (arith, inside); there = rest.there }
    ]

in-flat : (t : HistTrigger) (lists : List (List HistTrigger)) (index : ℕ) → index < length lists → IsIn t (get_or lists index []) → IsIn t (flat lists)
in-flat t [] index inside there = absurd (omega (arith, inside))
in-flat t (hists ∷ lists) zero inside there = append-first t hists (flat lists) there
in-flat t (hists ∷ lists) (suc index) inside there = append-second t hists (flat lists) (in-flat t lists index (omega (arith, inside)) there)

-- ---- the lists of a book

-- those of each event
abbrev pub event_lists : List HistTrigger → List Definition → List (List HistTrigger)
event_lists hists events = map (λ (event : Definition). those_of event hists) events

-- and those that `>` or `>>` leaves, where the event at an index is written
abbrev pub lists_left : List HistTrigger → List Definition → ℕ → Bool → List (List HistTrigger)
lists_left hists events index append = if append then event_lists hists events else set (event_lists hists events) index []

at-event : (hists : List HistTrigger) (events : List Definition) (index : ℕ) → index < length events
    → get_or (event_lists hists events) index [] ≡ those_of (get_or events index no_event) hists
at-event hists events index inside = get_or-map (λ (event : Definition). those_of event hists) events index no_event [] inside

many-lists : (hists : List HistTrigger) (events : List Definition) → length (event_lists hists events) ≡ length events
many-lists hists events = length-map events (λ (event : Definition). those_of event hists)

in-event : (t : HistTrigger) (hists : List HistTrigger) (events : List Definition) (index : ℕ) → index < length events
    → IsIn t (get_or (event_lists hists events) index []) → IsIn t hists × (is_of (get_or events index no_event) t ≡ true)
in-event t hists events index inside there =
    in-filter t (is_of (get_or events index no_event)) hists (subst (IsIn t) (at-event hists events index inside) there)

of-event : (t : HistTrigger) (hists : List HistTrigger) (events : List Definition) (index : ℕ) → index < length events
    → IsIn t hists → is_of (get_or events index no_event) t ≡ true → IsIn t (get_or (event_lists hists events) index [])
of-event t hists events index inside there is =
    subst (IsIn t) (sym (at-event hists events index inside)) (filter-in t (is_of (get_or events index no_event)) hists there is)

-- an event at another index is another event
other-at : (events : List Definition) (event : Definition) (index k : ℕ) (t : HistTrigger) → AreEvents [] events → IsIndexOf events event.name index event
    → k < length events → (k ≡ index → ⊥) → is_of (get_or events k no_event) t ≡ true → is_of event t ≡ false
other-at events event index k t distinct place inside other is =
    false_from_ne_true (is_of event t) (λ at.
    let one : event.name ≡ t.event.name = (bytes_eq-Decides event.name t.event.name).0 at in
    let two : (get_or events k no_event).name ≡ t.event.name = (bytes_eq-Decides (get_or events k no_event).name t.event.name).0 is in
    let here : event.name ≡ (get_or events index event).name = ap (λ (e : Definition). e.name) place.there in
    other (one_index events k index no_event event distinct inside place.inside (two ∙ sym one ∙ here)))

-- the book's lists have those of all that are left
pub lists-left : (past : List Request) (hists : List HistTrigger) (event : Definition) (index : ℕ) (append : Bool) → AreEvents [] (declared_events past)
    → IsIndexOf (declared_events past) event.name index event → (t : HistTrigger)
    → IsIn t (flat (lists_left hists (declared_events past) index append)) → IsIn t (left_by event append hists)
lists-left past hists event index true distinct place t there =
    let events = declared_events past in
    let found = flat-in t (event_lists hists events) there in
    let inside = found.inside in
    (in-event t hists events found.index (omega (arith, inside, many-lists hists events)) found.there).0
lists-left past hists event index false distinct place t there = by (found.index == index) refl
  where
    events : List Definition
    events = declared_events past

    lists : List (List HistTrigger)
    lists = event_lists hists events

    found : IsInAt t (set lists index [])
    found = flat-in t (set lists index []) there

    within : found.index < length events
    within = let inside = found.inside in omega (arith, inside, length-set lists index [], many-lists hists events)

    here : index < length lists
    here = let inside = place.inside in omega (arith, inside, many-lists hists events)

    by : (same : Bool) → (found.index == index) ≡ same → IsIn t (left_by event false hists)
    by true is =
        let at = eqb-true found.index index is in
        let none : get_or (set lists index []) found.index [] ≡ [] = ap (λ (k : ℕ). get_or (set lists index []) k []) at ∙ get_or-set_same lists index [] [] here in
        absurd (subst (IsIn t) none found.there)
    by false is =
        let other : found.index ≡ index → ⊥ = λ same. false≢true (sym is ∙ eq-eqb found.index index same) in
        let one = in-event t hists events found.index within (subst (IsIn t) (get_or-set_other lists index found.index [] [] other) found.there) in
        filter-in t (λ (u : HistTrigger). not (is_of event u)) hists one.0 (ap not (other-at events event index found.index t distinct place within other one.1))

-- an event of a hist trigger is declared
record IsDeclaredAt (events : List Definition) (t : HistTrigger) : Type 0 where
  index : ℕ
  inside : index < length events
  of : is_of (get_or events index no_event) t ≡ true

declared-at : (past : List Request) (t : HistTrigger) → IsNamed past t → IsDeclaredAt (declared_events past) t
declared-at past t named =
    let events = declared_events past in
    let k : NumberedEvent = named.k in
    let numbered = named-is_numbered events t.event.name k named.there in
    let place = index_of_id events t.event.name k.id k.event numbered.named numbered.there in
    let at : get_or events (k.id - 1) no_event ≡ t.event =
    get_or_default events (k.id - 1) no_event k.event place.inside ∙ sym place.there ∙ named.event in
    record {
      index = k.id - 1;
      inside = place.inside;
      of = (bytes_eq-Decides (get_or events (k.id - 1) no_event).name t.event.name).1 (ap (λ (e : Definition). e.name) at);
    }

-- and all that are left are in the book's lists
pub left-lists : (past : List Request) (hists : List HistTrigger) (event : Definition) (index : ℕ) (append : Bool)
    → IsIndexOf (declared_events past) event.name index event → AllByRecursion (IsNamed past) hists → (t : HistTrigger)
    → IsIn t (left_by event append hists) → IsIn t (flat (lists_left hists (declared_events past) index append))
left-lists past hists event index true place named t there =
    let events = declared_events past in
    let at = declared-at past t (each-in (IsNamed past) t hists named there) in
    let inside = at.inside in
    in-flat t (event_lists hists events) at.index (omega (arith, inside, many-lists hists events)) (of-event t hists events at.index at.inside there at.of)
left-lists past hists event index false place named t there =
    in-flat t (set lists index []) at.index within (subst (IsIn t) (sym (get_or-set_other lists index at.index [] [] other)) (of-event t hists events at.index at.inside old.0 at.of))
  where
    events : List Definition
    events = declared_events past

    lists : List (List HistTrigger)
    lists = event_lists hists events

    old : IsIn t hists × (not (is_of event t) ≡ true)
    old = in-filter t (λ (u : HistTrigger). not (is_of event u)) hists there

    at : IsDeclaredAt events t
    at = declared-at past t (each-in (IsNamed past) t hists named old.0)

    within : at.index < length (set lists index [])
    within = let inside = at.inside in omega (arith, inside, length-set lists index [], many-lists hists events)

    other : at.index ≡ index → ⊥
    other same =
        let here : get_or events at.index no_event ≡ event =
        ap (λ (k : ℕ). get_or events k no_event) same ∙ get_or_default events index no_event event place.inside ∙ sym place.there in
        let is : is_of event t ≡ true = ap (λ (e : Definition). is_of e t) (sym here) ∙ at.of in
        false≢true (sym (ap not is) ∙ old.1)
