-- The attached hist triggers of all events, as lists of lists: what holds of each, and that each is one of the requests' own.
use Rattle.std.proofs.Common.{◌≡◌, inl, inr, ℕ, zero, suc, ◌-◌, ◌<◌, ◌==◌, Bool, true, false, not, if◌then◌else◌, List, [], ◌∷◌, length, map, get_or, All, Option, refl, sym, ap, ◌∙◌, subst, arith, eq-eqb}
use Rattle.std.proofs.lemmas.List.{get_or-map, length-map}
use Rattle.std.proofs.lemmas.List.Elements.{All-filter, All-map, All-nil, All-push, All-set}
use Rattle.std.proofs.lemmas.List.Folds.{list_any_at}
use Rattle.std.proofs.lemmas.Slice.Eq.{bytes_eq-Decides}
use Rattle.trace_format.specs.Definitions.{Definition}
use Rattle.trace_command.specs.Requests.{Request}
use Rattle.tracer_specification.specs.HistTriggers.{HistTrigger, hist_triggers, is_of, those_of}
use Rattle.tracer_specification.specs.Declarations.{IsIndexOf}
use Rattle.tracer_specification.specs.Settings.{NumberedEvent, declared_events}
use Rattle.tracer_specification.proofs.Events.{index_of_id}
use Rattle.tracer_specification.proofs.LegalEvents.{named-is_numbered}
use Rattle.tracer_specification.proofs.Members.{IsIn, each-in, filter-in, in-all, in-filter}
use Rattle.tracer_specification.proofs.OwnFiles.{IsNamed, all-named}
use Rattle.trace_instance.specs.Changes.{hists_after, hists_changed}
use Rattle.trace_instance.specs.KeptHists.{attached_as, is_used, kept_hists, says_same, uses_table}
use Rattle.trace_instance.specs.declared.hists.AttachedHist.{AttachedHist}
use Rattle.trace_instance.specs.declared.change.InstanceChange.{InstanceChange}
use Rattle.trace_instance.specs.declared.change.InstanceChange.TheVariants.{Triggers}
use Rattle.trace_instance.specs.declared.change.TriggerChange.{TriggerChange}
use Rattle.trace_instance.specs.declared.change.TriggerChange.TheVariants.{AttachHist, MakeHist, DetachHist}
use Rattle.std.specs.List.{AllByRecursion}

-- what holds of each holds at an index
pub recursion_at : {X : Type 0} (P : X → Type 0) (xs : List X) (k : ℕ) (d : X) → AllByRecursion P xs → k < length xs → P (get_or xs k d)
recursion_at P [] k d all inside = absurd (omega arith)
recursion_at P (x ∷ xs) zero d all inside = all.0
recursion_at P (x ∷ xs) (suc k) d all inside = recursion_at P xs k d all.1 (omega (arith, inside))

-- it holds of each trigger of each event
abbrev pub AllOfEach : (AttachedHist → Type 0) → List (List AttachedHist) → Type 0
AllOfEach P hists = All (λ (attached : List AttachedHist). All P attached) hists

-- ---- those of the requests

-- what holds of each trigger of the requests holds of each that is attached
pub kept-all : (P : AttachedHist → Type 0) (name : Option (List ℕ)) (past : List Request) (events : List Definition)
    → ((t : HistTrigger) → IsIn t (hist_triggers name past) → P (attached_as t)) → AllOfEach P (map (kept_hists name past) events)
kept-all P name past events each =
    All-map (λ (attached : List AttachedHist). All P attached) (kept_hists name past) events
    (λ k d inside. All-map P attached_as (those_of (get_or events k d) (hist_triggers name past))
    (in-all (λ t. P (attached_as t)) (those_of (get_or events k d) (hist_triggers name past))
    (λ t there. each t (in-filter t (is_of (get_or events k d)) (hist_triggers name past) there).0)))

mapped-in : (P : AttachedHist → Type 0) (t : HistTrigger) (hists : List HistTrigger) → All P (map attached_as hists) → IsIn t hists → P (attached_as t)
mapped-in P t [] all there = absurd there
mapped-in P t (u ∷ hists) all (inl same) = subst (λ (v : HistTrigger). P (attached_as v)) same (all 0 (attached_as u) (omega arith))
mapped-in P t (u ∷ hists) all (inr there) = mapped-in P t hists (λ k d within. all (suc k) d (omega (arith, within))) there

-- and what holds of each that is attached, where the events are those that were declared, holds of each of the requests
at-declared : (P : AttachedHist → Type 0) (name : Option (List ℕ)) (past : List Request) (t : HistTrigger) (k : NumberedEvent)
    → AllOfEach P (map (kept_hists name past) (declared_events past)) → IsIndexOf (declared_events past) t.event.name (k.id - 1) k.event → k.event ≡ t.event
    → All P (kept_hists name past t.event)
at-declared P name past t k all place same =
    let events = declared_events past in
    let within : k.id - 1 < length (map (kept_hists name past) events) =
    omega (arith, place.inside, length-map events (kept_hists name past)) in
    let at : get_or (map (kept_hists name past) events) (k.id - 1) [] ≡ kept_hists name past t.event =
    get_or-map (kept_hists name past) events (k.id - 1) k.event [] place.inside ∙ ap (kept_hists name past) (sym place.there ∙ same) in
    subst (λ (attached : List AttachedHist). All P attached) at (all (k.id - 1) [] within)

pub kept-one : (P : AttachedHist → Type 0) (name : Option (List ℕ)) (past : List Request) (hists : List (List AttachedHist))
    → hists ≡ map (kept_hists name past) (declared_events past) → AllOfEach P hists
    → (t : HistTrigger) → IsIn t (hist_triggers name past) → P (attached_as t)
kept-one P name past hists are all t there =
    let named = each-in (IsNamed past) t (hist_triggers name past) (all-named name past) there in
    let numbered = named-is_numbered (declared_events past) t.event.name named.k named.there in
    let place = index_of_id (declared_events past) t.event.name named.k.id named.k.event numbered.named numbered.there in
    mapped-in P t (those_of t.event (hist_triggers name past))
    (at-declared P name past t named.k (subst (AllOfEach P) are all) place named.event)
    (filter-in t (is_of t.event) (hist_triggers name past) there ((bytes_eq-Decides t.event.name t.event.name).1 refl))

-- ---- those that a change leaves

-- of an event at an index, or of none
at-or_none : (P : AttachedHist → Type 0) (hists : List (List AttachedHist)) (index : ℕ) → AllOfEach P hists → All P (get_or hists index [])
at-or_none P [] index all = All-nil P
at-or_none P (attached ∷ hists) zero all = all 0 attached (omega arith)
at-or_none P (attached ∷ hists) (suc index) all = at-or_none P hists index (λ k d inside. all (suc k) d (omega (arith, inside)))

left-all : (P : AttachedHist → Type 0) (append : Bool) (hists : List (List AttachedHist)) (index : ℕ) → AllOfEach P hists
    → All P (if append then get_or hists index [] else [])
left-all P true hists index all = at-or_none P hists index all
left-all P false hists index all = All-nil P

-- it holds of the trigger that a change attaches
abbrev pub OfAttached : (AttachedHist → Type 0) → TriggerChange → Type 0
OfAttached P (AttachHist attached) = P attached
OfAttached P (MakeHist made) = P made.value.attached
OfAttached P change = Unit {0}

abbrev pub OfNew : (AttachedHist → Type 0) → InstanceChange → Type 0
OfNew P (Triggers index append change) = OfAttached P change
OfNew P change = Unit {0}

changed-all : (P : AttachedHist → Type 0) (change : TriggerChange) (hists : List AttachedHist) → All P hists → OfAttached P change
    → All P (hists_changed change hists)
changed-all P (AttachHist attached) hists all new = All-push P hists attached all new
changed-all P (MakeHist made) hists all new = All-push P hists made.value.attached all new
changed-all P (DetachHist spec) hists all new = All-filter (λ (a : AttachedHist). not (says_same spec.value a)) P hists all
changed-all P change hists all new = all

-- each is one of those before, or the one that the change attaches
pub after-all : (P : AttachedHist → Type 0) (change : InstanceChange) (hists : List (List AttachedHist)) → AllOfEach P hists → OfNew P change
    → AllOfEach P (hists_after change hists)
after-all P (Triggers index append change) hists all new =
    All-set (λ (attached : List AttachedHist). All P attached) hists index (hists_changed change (if append then get_or hists index [] else []))
    (changed-all P change (if append then get_or hists index [] else []) (left-all P append hists index all) new) all
after-all P change hists all new = all

-- ---- their tables

-- each counts in a table that is used
pub used-all : (hists : List (List AttachedHist)) → AllOfEach (λ a. is_used a.table hists ≡ true) hists
used-all hists = λ k d inside j e within.
    let a = get_or (get_or hists k d) j e in
    list_any_at (uses_table a.table) hists k d inside
    (list_any_at (λ (other : AttachedHist). other.table == a.table) (get_or hists k d) j e within (eq-eqb a.table a.table refl))
