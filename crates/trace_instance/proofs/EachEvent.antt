-- An instance keeps one list over its events. A change of it is a change of the lists over them that contracts see.
use Rattle.std.proofs.Common.{◌≡◌, ℕ, ◌<◌, Bool, ◌||◌, List, [], ◌∷◌, length, map, get_or, set, Option, None, refl, sym, ap, ◌∙◌, arith}
use Rattle.std.specs.List.{list_any}
use Rattle.std.proofs.Math.Seq.{map-set_same}
use Rattle.std.proofs.lemmas.List.{get_or-map, length-map, map-set}
use Rattle.std.proofs.lemmas.List.Folds.{list_all-map}
use Rattle.trace_filter.specs.Filters.{Parsed}
use Rattle.trace_snapshot.specs.Sides.{SidesSeen}
use Rattle.trace_instance.specs.Changes.{changed_filter, changed_filters}
use Rattle.trace_instance.specs.Deliveries.{counted_down}
use Rattle.trace_instance.specs.Instances.{InstanceSeen}
use Rattle.trace_instance.specs.EventLists.{all_enabled, all_filters, all_hists, all_triggers, with_filters}
use Rattle.trace_instance.specs.TriggerLists.{TriggersSeen}
use Rattle.trace_instance.specs.declared.change.FilterChange.{FilterChange}
use Rattle.trace_instance.specs.declared.event.InstanceEvent.{InstanceEvent}
use Rattle.trace_instance.specs.declared.instance.Instance.TheInside.{Inside}
use Rattle.trace_instance.specs.declared.tables.Table.{Table}
use Rattle.trace_instance.specs.declared.trigger.AttachedSnapshot.{AttachedSnapshot}

-- an instance with these events
abbrev pub seen : List InstanceEvent → List Table → Bool → Bool → SidesSeen → InstanceSeen
seen events tables overwrite tracing sides = record {
  enabled = all_enabled events;
  filters = all_filters events;
  triggers = all_triggers events;
  hists = all_hists events;
  tables = tables;
  overwrite = overwrite;
  tracing = tracing;
  sides = sides;
}

abbrev pub view_of : Inside → InstanceSeen
view_of i = seen i.events.items i.tables.items i.overwrite i.tracing i.sides

-- ---- one event

-- what is read of it
pub read : {A : Type 0} (f : InstanceEvent → A) (events : List InstanceEvent) (at : ℕ) (one : InstanceEvent) (d : A) → one ≡ get_or events at one
    → at < length events → f one ≡ get_or (map f events) at d
read f events at one d is inside = ap f is ∙ sym (get_or-map f events at one d inside)

-- an instance with these fields has it
pub inside_of : (value : InstanceSeen) (old : Inside) (at : ℕ) → view_of old ≡ value → at < length value.hists → at < length old.events.items
inside_of value old at view within =
    let many = ap (λ (v : InstanceSeen). length v.hists) view in
    omega (arith, many, within, length-map old.events.items (λ (e : InstanceEvent). e.triggers.hists))

pub hists_in : (value : InstanceSeen) (old : Inside) (at : ℕ) (one : InstanceEvent) → view_of old ≡ value → at < length value.hists
    → one ≡ get_or old.events.items at one → one.triggers.hists ≡ get_or (all_hists old.events.items) at []
hists_in value old at one view within is = read (λ (e : InstanceEvent). e.triggers.hists) old.events.items at one [] is (inside_of value old at view within)

pub hists_at : (value : InstanceSeen) (old : Inside) (at : ℕ) (one : InstanceEvent) → view_of old ≡ value → at < length value.hists
    → one ≡ get_or old.events.items at one → one.triggers.hists ≡ get_or value.hists at []
hists_at value old at one view within is = hists_in value old at one view within is ∙ ap (λ (v : InstanceSeen). get_or v.hists at []) view

-- what a write leaves of it
pub still : {A : Type 0} (f : InstanceEvent → A) (events : List InstanceEvent) (at : ℕ) (old new : InstanceEvent) → old ≡ get_or events at old
    → f new ≡ f old → map f (set events at new) ≡ map f events
still f events at old new is same = map-set_same f events at new old (same ∙ ap f is)

-- its trigger has acted
pub counted : (value : InstanceSeen) (old : Inside) (at : ℕ) (one : InstanceEvent) (new : TriggersSeen) → view_of old ≡ value → at < length value.triggers
    → one ≡ get_or old.events.items at one → new.snapshot ≡ counted_down one.triggers.snapshot
    → all_triggers (set old.events.items at (record one { triggers = new }))
    ≡ set (all_triggers old.events.items) at (counted_down (get_or (all_triggers old.events.items) at None))
counted value old at one new view within is after =
    let events = old.events.items in
    let snapshot : InstanceEvent → Option AttachedSnapshot = λ e. e.triggers.snapshot in
    let many = ap (λ (v : InstanceSeen). length v.triggers) view in
    let inside : at < length events = omega (arith, many, within, length-map events snapshot) in
    map-set snapshot events at (record one { triggers = new }) ∙ ap (set (all_triggers events) at) after
    ∙ ap (λ (t : Option AttachedSnapshot). set (all_triggers events) at (counted_down t)) (read snapshot events at one None is inside)

-- ---- each event

pub filtered-still : {A : Type 0} (f : InstanceEvent → A) (changes : List FilterChange) (events : List InstanceEvent)
    → ((e : InstanceEvent) (new : Option Parsed) → f (record e { filter = new }) ≡ f e) → map f (with_filters changes events) ≡ map f events
filtered-still f [] events same = refl
filtered-still f (change ∷ changes) [] same = refl
filtered-still f (change ∷ changes) (e ∷ events) same = λ i. same e (changed_filter change e.filter) i ∷ filtered-still f changes events same i

pub filtered : (changes : List FilterChange) (events : List InstanceEvent)
    → all_filters (with_filters changes events) ≡ changed_filters changes (all_filters events)
filtered [] events = refl
filtered (change ∷ changes) [] = refl
filtered (change ∷ changes) (e ∷ events) = λ i. changed_filter change e.filter ∷ filtered changes events i

pub any-map : {A B : Type 0} (test : B → Bool) (f : A → B) (xs : List A) → list_any test (map f xs) ≡ list_any (λ (x : A). test (f x)) xs
any-map test f [] = refl
any-map test f (x ∷ xs) = ap (λ (b : Bool). test (f x) || b) (any-map test f xs)

pub ruleset each_event = (any-map, list_all-map, map-set, still, length-map)
