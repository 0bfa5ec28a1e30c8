-- Plans of events: what leaves them as they are, and that those are worked out anew which a change does not leave.
use Rattle.std.proofs.Common.{◌≡◌, ◌≢◌, ℕ, ◌+◌, ◌<◌, ◌≤◌, Bool, true, false, if◌then◌else◌, ◌&&◌, List, [], ◌∷◌, length, get_or, set, is_some, Option, Some, None, refl, sym, ap, ◌∙◌, subst, ⊎_elim, arith, get_or-set_same, get_or-set_other}
use Rattle.std.proofs.lemmas.Bool.{cases_eq, cases_lt}
use Rattle.std.specs.Global.{Vec}
use Rattle.std.proofs.lemmas.List.{get_or_append_left, length_push, set_past}
use Rattle.trace_command.specs.declared.command.Config.{Config}
use Rattle.trace_filter.specs.Filters.{Parsed}
use Rattle.trace_format.specs.Definitions.{Definition}
use Rattle.trace_instance.specs.Changes.{IsApplied, IsLawful, triggers_after, with_event}
use Rattle.trace_instance.specs.Deliveries.{IsDelivered, counted_down}
use Rattle.trace_instance.specs.Instances.{InstanceSeen, IsAlike, IsUsableInstance}
use Rattle.trace_instance.specs.Plans.{plan_of, planned, touched}
use Rattle.trace_instance.specs.declared.change.Delivery.{Delivery}
use Rattle.trace_instance.specs.declared.change.InstanceChange.{InstanceChange}
use Rattle.trace_instance.specs.declared.change.InstanceChange.TheVariants.{Switch, SwitchAll, SetFilter, SetFilters, ClearFilters, Triggers, SetTracing}
use Rattle.trace_instance.specs.declared.change.Reach.{Reach}
use Rattle.trace_instance.specs.declared.change.TriggerChange.{TriggerChange}
use Rattle.trace_instance.specs.declared.change.TriggerChange.TheVariants as attaching
use Rattle.trace_instance.specs.declared.hists.AttachedHist.{AttachedHist}
use Rattle.trace_instance.specs.declared.plan.Touched.{Touched}
use Rattle.trace_instance.specs.declared.trigger.AttachedSnapshot.{AttachedSnapshot}
use Rattle.tracer_state.specs.EventPlans.{IsPlanOf, IsPlanned, touched_by}
use Rattle.tracer_state.specs.States.{EachDelivered, HasChanged, IsReady, IsUsable, reach_at}
use Rattle.tracer_state.specs.declared.change.Change.{Change}
use Rattle.tracer_state.specs.declared.change.Change.TheVariants.{Declare, Make, Remove, Instance}
use Rattle.tracer_state.specs.declared.plan.EventPlan.{EventPlan}
use Rattle.tracer_state.specs.declared.state.Named.{Named}
use Rattle.tracer_state.specs.declared.state.State.{State}
use Rattle.tracer_state.proofs.EachInstance.{first}

-- ---- an instance whose settings of an event stay

same-event : (i j : InstanceSeen) (event : ℕ) → j.tracing ≡ i.tracing → get_or j.enabled event false ≡ get_or i.enabled event false
    → get_or j.filters event None ≡ get_or i.filters event None
    → is_some (get_or j.triggers event None) ≡ is_some (get_or i.triggers event None) → get_or j.hists event [] ≡ get_or i.hists event []
    → plan_of j event ≡ plan_of i event
same-event i j event tracing enabled filters triggers hists = λ x. planned (tracing x && enabled x) (filters x) (triggers x) (hists x)

same-settings : (i j : InstanceSeen) (event : ℕ) → j.tracing ≡ i.tracing → j.enabled ≡ i.enabled → j.filters ≡ i.filters → j.triggers ≡ i.triggers
    → j.hists ≡ i.hists → plan_of j event ≡ plan_of i event
same-settings i j event tracing enabled filters triggers hists =
    λ x. planned (tracing x && get_or (enabled x) event false) (get_or (filters x) event None) (is_some (get_or (triggers x) event None))
    (get_or (hists x) event [])

-- memory for rows is no setting
pub plan-alike : (i j : InstanceSeen) (event : ℕ) → IsAlike i j → plan_of j event ≡ plan_of i event
plan-alike i j event alike = ap (λ (s : InstanceSeen). plan_of s event) alike.rest

-- ---- an emission

still-there : (t : Option AttachedSnapshot) → is_some (counted_down t) ≡ is_some t
still-there None = refl
still-there (Some t) = refl

-- a trigger that acted is there still
still-triggered : (triggers : List (Option AttachedSnapshot)) (at event : ℕ)
    → is_some (get_or (set triggers at (counted_down (get_or triggers at None))) event None) ≡ is_some (get_or triggers event None)
still-triggered triggers at event =
    let acted = counted_down (get_or triggers at None) in
    ⊎_elim
    (λ (inside : at < length triggers). ⊎_elim
    (λ (here : event ≡ at). rw here (ap (λ (t : Option AttachedSnapshot). is_some t) (get_or-set_same triggers at acted None inside) ∙ still-there (get_or triggers at None)))
    (λ (other : event ≡ at → ⊥). ap (λ (t : Option AttachedSnapshot). is_some t) (get_or-set_other triggers at event acted None other))
    (cases_eq event at))
    (λ (beyond : length triggers ≤ at). ap (λ (l : List (Option AttachedSnapshot)). is_some (get_or l event None)) (set_past triggers at acted beyond))
    (cases_lt at (length triggers))

plan-delivered : (d : Delivery) (reach : Reach) (i j : InstanceSeen) (event : ℕ) → IsDelivered d reach i j → plan_of j event ≡ plan_of i event
plan-delivered d reach i j event is = same-event i j event is.tracing
    (ap (λ (l : List Bool). get_or l event false) is.enabled)
    (ap (λ (l : List (Option Parsed)). get_or l event None) is.filters)
    (by reach.snapshot_fires is.triggers)
    (ap (λ (l : List (List AttachedHist)). get_or l event []) is.hists)
  where
    by : (snapshot_fires : Bool) → j.triggers ≡ (if snapshot_fires then set i.triggers d.event (counted_down (get_or i.triggers d.event None)) else i.triggers)
        → is_some (get_or j.triggers event None) ≡ is_some (get_or i.triggers event None)
    by true same = ap (λ (l : List (Option AttachedSnapshot)). is_some (get_or l event None)) same ∙ still-triggered i.triggers d.event event
    by false same = ap (λ (l : List (Option AttachedSnapshot)). is_some (get_or l event None)) same

-- ---- a change

-- one more event leaves those before it
plan-with_event : (g : Config) (events : ℕ) (i : InstanceSeen) (event : ℕ) → IsUsableInstance g events i → event < events
    → plan_of (with_event i) event ≡ plan_of i event
plan-with_event g events i event usable inside = same-event i (with_event i) event refl
    (get_or_append_left i.enabled (false ∷ []) false event (omega (arith, inside, usable.enabled)))
    (get_or_append_left i.filters (None ∷ []) None event (omega (arith, inside, usable.filters)))
    (ap (λ (t : Option AttachedSnapshot). is_some t) (get_or_append_left i.triggers (None ∷ []) None event (omega (arith, inside, usable.triggers))))
    (get_or_append_left i.hists ([] ∷ []) [] event (omega (arith, inside, usable.hists)))

-- a change of an event's triggers leaves those of others
other-triggers : (index : ℕ) (append : Bool) (change : TriggerChange) (triggers : List (Option AttachedSnapshot)) (event : ℕ) → event ≢ index
    → get_or (triggers_after (Triggers index append change) triggers) event None ≡ get_or triggers event None
other-triggers index append (attaching.AttachSnapshot trigger) triggers event other = get_or-set_other triggers index event (Some trigger) None other
other-triggers index append attaching.DetachSnapshot triggers event other = get_or-set_other triggers index event None None other
other-triggers index append change triggers event other = refl

-- an event at none of these indices
abbrev IsOutside : Touched → ℕ → Type 0
IsOutside t event = t.first ≤ event → event < t.first + t.count → ⊥

-- no event is outside of all of them
none-outside : {A : Type 0} (events event : ℕ) → event < events → IsOutside (record { first = 0; count = events }) event → A
none-outside events event inside outside = absurd (outside (omega arith) (omega arith))

one-outside : (index event : ℕ) → IsOutside (record { first = index; count = 1 }) event → event ≢ index
one-outside index event outside = λ same. outside (omega (arith, same)) (omega (arith, same))

-- a change leaves the plans of the events that it doesn't touch
untouched : (events : ℕ) (change : InstanceChange) (i j : InstanceSeen) (event : ℕ) → IsApplied change i j → event < events
    → IsOutside (touched events change) event → plan_of j event ≡ plan_of i event
untouched events (Switch index flag) i j event is inside outside = same-event i j event is.tracing
    (ap (λ (l : List Bool). get_or l event false) is.enabled ∙ get_or-set_other i.enabled index event flag false (one-outside index event outside))
    (ap (λ (l : List (Option Parsed)). get_or l event None) is.filters)
    (ap (λ (l : List (Option AttachedSnapshot)). is_some (get_or l event None)) is.triggers)
    (ap (λ (l : List (List AttachedHist)). get_or l event []) is.hists)
untouched events (SetFilter index new) i j event is inside outside = same-event i j event is.tracing
    (ap (λ (l : List Bool). get_or l event false) is.enabled)
    (ap (λ (l : List (Option Parsed)). get_or l event None) is.filters
    ∙ get_or-set_other i.filters index event _ None (one-outside index event outside))
    (ap (λ (l : List (Option AttachedSnapshot)). is_some (get_or l event None)) is.triggers)
    (ap (λ (l : List (List AttachedHist)). get_or l event []) is.hists)
untouched events (Triggers index append change) i j event is inside outside =
    let other = one-outside index event outside in
    same-event i j event is.tracing
    (ap (λ (l : List Bool). get_or l event false) is.enabled)
    (ap (λ (l : List (Option Parsed)). get_or l event None) is.filters)
    (ap (λ (l : List (Option AttachedSnapshot)). is_some (get_or l event None)) is.triggers
    ∙ ap (λ (t : Option AttachedSnapshot). is_some t) (other-triggers index append change i.triggers event other))
    (ap (λ (l : List (List AttachedHist)). get_or l event []) is.hists ∙ get_or-set_other i.hists index event _ [] other)
untouched events (SwitchAll flag) i j event is inside outside = none-outside events event inside outside
untouched events (SetFilters changes) i j event is inside outside = none-outside events event inside outside
untouched events ClearFilters i j event is inside outside = none-outside events event inside outside
untouched events (SetTracing flag) i j event is inside outside = none-outside events event inside outside
untouched events change i j event is inside outside = same-settings i j event is.tracing is.enabled is.filters is.triggers is.hists

-- ---- the instances of a state

-- a plan stays where it stays in each instance
plan-stays : (event : ℕ) (kept : EventPlan) (old new : List Named) → length new ≡ length old
    → ((k : ℕ) (n : Named) → k < length old → plan_of (get_or new k n).instance event ≡ plan_of (get_or old k n).instance event)
    → IsPlanOf event kept old → IsPlanOf event kept new
plan-stays event kept old new many same is =
    let within : (k : ℕ) → k < length new → k < length old = λ k inside. omega (arith, inside, many) in record {
      each = λ k inside few n. is.each k (within k inside) few n ∙ sym (same k n (within k inside));
      reaches = λ k inside few. is.reaches k (within k inside) few;
      recorded = λ off k inside few. is.recorded off k (within k inside) few;
      asks = λ off k inside few. is.asks off k (within k inside) few;
    }

pub plans-stay : (old new : State) → new.catalog ≡ old.catalog → new.plans.items ≡ old.plans.items → length new.instances.items ≡ length old.instances.items
    → ((event k : ℕ) (n : Named) → k < length old.instances.items
    → plan_of (get_or new.instances.items k n).instance event ≡ plan_of (get_or old.instances.items k n).instance event)
    → IsPlanned old → IsPlanned new
plans-stay old new catalog plans many same planned = record {
  many = ap (λ (l : List EventPlan). length l) plans ∙ planned.many;
  each = λ event p inside.
      let within : event < length old.catalog = subst (λ (l : List Definition). event < length l) catalog inside in
      subst (λ (l : List EventPlan). IsPlanOf event (get_or l event p) new.instances.items) (sym plans)
      (plan-stays event (get_or old.plans.items event p) old.instances.items new.instances.items many (same event) (planned.each event p within));
}

pub plans-after-emission : (d : Delivery) (old new : State) → new.catalog ≡ old.catalog → new.plans.items ≡ old.plans.items
    → EachDelivered d old.instances.items new.instances.items → IsPlanned old → IsPlanned new
plans-after-emission d old new catalog plans came planned = plans-stay old new catalog plans came.many
    (λ event k n inside. plan-delivered d (reach_at d.reaches k) (get_or old.instances.items k n).instance (get_or new.instances.items k n).instance event
    (came.came k n inside)) planned

-- a change leaves the plan of each event that it doesn't touch
left-by : (g : Config) (old new : State) (change : Change) (event : ℕ) (kept : EventPlan) → IsUsable g old → IsReady g old change → HasChanged old new change
    → event < length new.catalog → IsOutside (touched_by (length old.catalog) change) event
    → (event < length old.catalog → IsPlanOf event kept old.instances.items) → IsPlanOf event kept new.instances.items
left-by g old new (Declare declared) event kept usable ready step inside outside was =
    let many = ap (λ (l : List Definition). length l) step.0 ∙ length_push old.catalog declared in
    let other : event ≢ length old.catalog = one-outside (length old.catalog) event outside in
    let within : event < length old.catalog = omega (arith, inside, many, other) in
    plan-stays event kept old.instances.items new.instances.items step.2.many
    (λ k n there. ap (λ (i : InstanceSeen). plan_of i event) (step.2.came k n there)
    ∙ plan-with_event g (length old.catalog) (get_or old.instances.items k n).instance event (usable.each k n there) within)
    (was within)
left-by g old new (Make named) event kept usable ready step inside outside was =
    none-outside (length old.catalog) event (subst (λ (l : List Definition). event < length l) step.0 inside) outside
left-by g old new (Remove index) event kept usable ready step inside outside was =
    none-outside (length old.catalog) event (subst (λ (l : List Definition). event < length l) step.0 inside) outside
left-by g old new (Instance index change) event kept usable ready step inside outside was =
    let within : event < length old.catalog = subst (λ (l : List Definition). event < length l) step.0 inside in
    let P : ℕ → Type 0 = λ k. (n : Named)
    → plan_of (get_or new.instances.items k n).instance event ≡ plan_of (get_or old.instances.items k n).instance event in
    let changed : P index = λ n. untouched (length old.catalog) change (get_or old.instances.items index n).instance
    (get_or new.instances.items index n).instance event (step.2.came n) within outside in
    plan-stays event kept old.instances.items new.instances.items step.2.many
    (λ k n there. ⊎_elim
    (λ (here : k ≡ index). subst P (sym here) changed n)
    (λ (other : k ≡ index → ⊥). ap (λ (m : Named). plan_of m.instance event) (step.2.others k n there other))
    (cases_eq k index))
    (was within)

-- a change says nothing of plans
pub changed-with : (old made : State) (plans : Vec EventPlan) (change : Change) → HasChanged old made change
    → HasChanged old (record made { plans = plans }) change
changed-with old made plans (Declare event) step = step
changed-with old made plans (Make named) step = step
changed-with old made plans (Remove index) step = step
changed-with old made plans (Instance index change) step = step

-- so where those are worked out anew that it touches, all are what the settings say
pub plans-after : (g : Config) (old new : State) (change : Change) (t : Touched) → IsUsable g old → IsReady g old change → HasChanged old new change
    → t ≡ touched_by (length old.catalog) change → length new.plans.items ≡ length old.plans.items
    → ((event : ℕ) (p : EventPlan) → t.first ≤ event → event < t.first + t.count → IsPlanOf event (get_or new.plans.items event p) new.instances.items)
    → ((event : ℕ) (p : EventPlan) → event < t.first → get_or new.plans.items event p ≡ get_or old.plans.items event p)
    → ((event : ℕ) (p : EventPlan) → t.first + t.count ≤ event → get_or new.plans.items event p ≡ get_or old.plans.items event p) → IsPlanned new
plans-after g old new change t usable ready step is many anew before after = record {
  many = many ∙ usable.planned.many;
  each = λ event p inside. ⊎_elim
      (λ (below : event < t.first). left event p inside (λ from to. omega (arith, below, from)) (before event p below))
      (λ (from : t.first ≤ event). ⊎_elim
      (λ (within : event < t.first + t.count). anew event p from within)
      (λ (beyond : t.first + t.count ≤ event). left event p inside (λ at to. omega (arith, beyond, to)) (after event p beyond))
      (cases_lt event (t.first + t.count)))
      (cases_lt event t.first);
}
  where
    left : (event : ℕ) (p : EventPlan) → event < length new.catalog → IsOutside t event
        → get_or new.plans.items event p ≡ get_or old.plans.items event p → IsPlanOf event (get_or new.plans.items event p) new.instances.items
    left event p inside outside same = subst (λ (kept : EventPlan). IsPlanOf event kept new.instances.items) (sym same)
        (left-by g old new change event (get_or old.plans.items event p) usable ready step inside
        (subst (λ (u : Touched). IsOutside u event) is outside) (λ within. usable.planned.each event p within))

-- ---- the room for them

lawful-within : (g : Config) (events : ℕ) (i : InstanceSeen) (change : InstanceChange) → IsUsableInstance g events i → IsLawful i change → events ≤ 64
    → (touched events change).first + (touched events change).count ≤ 64
lawful-within g events i (Switch index flag) usable lawful few = omega (arith, lawful, usable.enabled, few)
lawful-within g events i (SetFilter index new) usable lawful few = omega (arith, lawful, usable.filters, few)
lawful-within g events i (Triggers index append change) usable lawful few = omega (arith, lawful.0, usable.triggers, few)
lawful-within g events i change usable lawful few = omega arith

-- a change touches only events that may be declared
pub touched-within : (g : Config) (state : State) (change : Change) → IsUsable g state → IsReady g state change
    → (touched_by (length state.catalog) change).first + (touched_by (length state.catalog) change).count ≤ 64
touched-within g state (Declare event) usable ready = omega (arith, ready.0)
touched-within g state (Make named) usable ready = omega (arith, usable.few_events)
touched-within g state (Remove index) usable ready = omega (arith, usable.few_events)
touched-within g state (Instance index change) usable ready =
    let d : Named = first state.instances.items (omega (arith, ready.0)) in
    lawful-within g (length state.catalog) (get_or state.instances.items index d).instance change (usable.each index d ready.0) (ready.1 d)
    usable.few_events
