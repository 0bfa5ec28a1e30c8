-- What instances want by their settings is what they want after the requests that led to them.
use Rattle.std.proofs.Common.{◌≡◌, ◌↔◌, ℕ, zero, suc, ◌-◌, ◌<◌, ◌≤◌, Bool, true, false, not, ◌&&◌, ◌||◌, List, [], ◌∷◌, length, map, get_or, slice_get, All, Option, None, Some, option_map, IsBitSet, refl, sym, ap, ◌∙◌, subst, arith}
use Rattle.std.specs.List.{list_any}
use Rattle.std.proofs.lemmas.Bool.{false≢true}
use Rattle.std.proofs.lemmas.List.{get_or-map, get_or_past, length-map}
use Rattle.std.proofs.lemmas.List.Elements.{All-head, All-tail}
use Rattle.std.proofs.lemmas.List.Folds.{list_any_none}
use Rattle.std.proofs.lemmas.Option.{get_or_from_slice_get, slice_get_within}
use Rattle.trace_command.specs.Requests.{Request}
use Rattle.trace_command.specs.declared.command.Config.{Config}
use Rattle.trace_format.specs.Catalogs.{event_of}
use Rattle.trace_format.specs.Definitions.{Definition}
use Rattle.tracer_specification.specs.HistTriggers.{HistTrigger, hists_of, is_paused}
use Rattle.tracer_specification.specs.IdleEvents.{has_active_hist, has_times_left, is_idle, wants}
use Rattle.tracer_specification.specs.Settings.{declared_events, is_enabled}
use Rattle.tracer_specification.specs.Triggers.{Trigger, snapshot_trigger_of}
use Rattle.trace_instance.specs.Instances.{InstanceSeen, InstanceStandsFor, kept_as, kept_trigger}
use Rattle.trace_instance.specs.KeptHists.{TableStandsFor, attached_as, kept_hists}
use Rattle.trace_instance.specs.WantedEvents as kept
use Rattle.trace_instance.specs.WantedEvents.{is_active, is_counting, wants_event}
use Rattle.trace_instance.specs.declared.hists.AttachedHist.{AttachedHist}
use Rattle.trace_instance.specs.declared.tables.Table.{Table}
use Rattle.trace_instance.specs.declared.trigger.AttachedSnapshot.{AttachedSnapshot}
use Rattle.trace_instance.proofs.EachEvent.{any-map}
use Rattle.tracer_state.specs.States.{StandsFor}
use Rattle.tracer_state.specs.WantedMasks.{IsMaskOf, is_wanted}
use Rattle.tracer_state.specs.declared.state.Named.{Named}
use Rattle.tracer_state.specs.declared.state.State.{State}
use Rattle.tracer.specs.LiveMasks.{IsMaskAfter}

-- tests that agree on each element
any-alike : {A : Type 0} (p q : A → Bool) (xs : List A) → All (λ (x : A). p x ≡ q x) xs → list_any p xs ≡ list_any q xs
any-alike p q [] same = refl
any-alike {A} p q (x ∷ xs) same =
    let P : A → Type 0 = λ y. p y ≡ q y in
    let one : p x ≡ q x = All-head P x xs same in
    let rest = any-alike p q xs (All-tail P x xs same) in
    λ i. one i || rest i

-- ---- the triggers of an event

-- hist triggers whose tables are what the requests say
active-told : (name : Option (List ℕ)) (past : List Request) (tables : List Table) (hists : List HistTrigger)
    → All (TableStandsFor name past tables) (map attached_as hists)
    → list_any (is_active tables) (map attached_as hists) ≡ list_any (λ (t : HistTrigger). not (is_paused name t.table past)) hists
active-told name past tables [] stand = refl
active-told name past tables (t ∷ hists) stand =
    let P : AttachedHist → Type 0 = TableStandsFor name past tables in
    let own : TableStandsFor name past tables (attached_as t) = All-head P (attached_as t) (map attached_as hists) stand in
    let one : is_active tables (attached_as t) ≡ not (is_paused name t.table past) = ap is_counting own.there ∙ ap not own.paused in
    let rest = active-told name past tables hists (All-tail P (attached_as t) (map attached_as hists) stand) in
    λ i. one i || rest i

left-told : (past : List Request) (event : Definition) (t : Option Trigger)
    → kept.has_times_left (option_map (kept_as past event) t) ≡ has_times_left event t past
left-told past event None = refl
left-told past event (Some t) = refl

-- ---- an instance

module _ (g : Config) (name : Option (List ℕ)) (past : List Request) (i : InstanceSeen) (stands : InstanceStandsFor g name past i) (index : ℕ) where
  abbrev events : List Definition
  events = declared_events past

  pub wants-told : (event : Definition) → slice_get events index ≡ Some event → wants_event i index ≡ wants name event past
  wants-told event there =
      let inside : index < length events = slice_get_within events index event there in
      let is : get_or events index event ≡ event = get_or_from_slice_get events index event event there in
      let own_hists : index < length i.hists = (let many = ap (λ (l : List (List AttachedHist)). length l) stands.hists in
      omega (arith, inside, many, length-map events (kept_hists name past))) in
      let enabled : get_or i.enabled index false ≡ is_enabled name event.name past =
      ap (λ (l : List Bool). get_or l index false) stands.enabled
      ∙ get_or-map (λ (d : Definition). is_enabled name d.name past) events index event false inside ∙ ap (λ (d : Definition). is_enabled name d.name past) is in
      let trigger : get_or i.triggers index None ≡ kept_trigger name past event =
      ap (λ (l : List (Option AttachedSnapshot)). get_or l index None) stands.triggers
      ∙ get_or-map (kept_trigger name past) events index event None inside ∙ ap (kept_trigger name past) is in
      let hists : get_or i.hists index [] ≡ kept_hists name past event =
      ap (λ (l : List (List AttachedHist)). get_or l index []) stands.hists
      ∙ get_or-map (kept_hists name past) events index event [] inside ∙ ap (kept_hists name past) is in
      let tables : All (TableStandsFor name past i.tables) (kept_hists name past event) =
      subst (λ (l : List AttachedHist). All (TableStandsFor name past i.tables) l) hists (stands.tables index [] own_hists) in
      let active : list_any (is_active i.tables) (get_or i.hists index []) ≡ has_active_hist name event past =
      ap (list_any (is_active i.tables)) hists ∙ active-told name past i.tables (hists_of name event past) tables in
      let left : kept.has_times_left (get_or i.triggers index None) ≡ has_times_left event (snapshot_trigger_of name event past) past =
      ap kept.has_times_left trigger ∙ left-told past event (snapshot_trigger_of name event past) in
      λ k. (stands.tracing k && enabled k) || (active k || left k)

  -- it wants none that was not declared
  undeclared : length events ≤ index → wants_event i index ≡ false
  undeclared past_last =
      let enabled : get_or i.enabled index false ≡ false =
      ap (λ (l : List Bool). get_or l index false) stands.enabled
      ∙ get_or_past (map (λ (d : Definition). is_enabled name d.name past) events) index false
      (omega (arith, past_last, length-map events (λ (d : Definition). is_enabled name d.name past))) in
      let trigger : get_or i.triggers index None ≡ None =
      ap (λ (l : List (Option AttachedSnapshot)). get_or l index None) stands.triggers
      ∙ get_or_past (map (kept_trigger name past) events) index None (omega (arith, past_last, length-map events (kept_trigger name past))) in
      let hists : get_or i.hists index [] ≡ [] =
      ap (λ (l : List (List AttachedHist)). get_or l index []) stands.hists
      ∙ get_or_past (map (kept_hists name past) events) index [] (omega (arith, past_last, length-map events (kept_hists name past))) in
      let same : wants_event i index ≡ ((i.tracing && false) || kept.may_act None [] i.tables) =
      λ k. (i.tracing && enabled k) || kept.may_act (trigger k) (hists k) i.tables in
      same ∙ none i.tracing
    where
      none : (tracing : Bool) → ((tracing && false) || kept.may_act None [] i.tables) ≡ false
      none true = refl
      none false = refl

-- ---- all instances

idle-told : (g : Config) (state : State) (past : List Request) → StandsFor g state past → (index : ℕ) (event : Definition)
    → slice_get (declared_events past) index ≡ Some event → not (is_wanted state.instances.items index) ≡ is_idle event past
idle-told g state past stands index event there =
    let items = state.instances.items in
    let test : Option (List ℕ) → Bool = λ name. wants name event past in
    let each : is_wanted items index ≡ list_any (λ (n : Named). test n.name) items =
    any-alike (λ (n : Named). wants_event n.instance index) (λ (n : Named). test n.name) items
    (λ k d inside. wants-told g _ past _ (stands.each k d inside) index event there) in
    ap not (each ∙ sym (any-map test (λ (n : Named). n.name) items) ∙ ap (list_any test) stands.names)

none-wanted : (g : Config) (state : State) (past : List Request) → StandsFor g state past → (index : ℕ) → length (declared_events past) ≤ index
    → is_wanted state.instances.items index ≡ false
none-wanted g state past stands index beyond =
    list_any_none (λ (n : Named). wants_event n.instance index) state.instances.items
    (λ k d inside. undeclared g _ past _ (stands.each k d inside) index beyond)

-- ---- the mask

clear : (wanted : Bool) (S : Type 0) → S ↔ (wanted ≡ true) → (¬ S) ↔ (not wanted ≡ true)
clear true S is = (λ off. absurd (off (is.1 refl)), λ e. absurd cc)
clear false S is = (λ off. refl, λ e set. false≢true (is.0 set))

pub mask-after : (g : Config) (state : State) (past : List Request) (mask : ℕ) → StandsFor g state past → IsMaskOf state.instances.items mask
    → IsMaskAfter past mask
mask-after g state past mask stands is = record { declared = declared; others = others }
  where
    declared : (number : ℕ) (event : Definition) → event_of (declared_events past) number ≡ Some event
        → (¬ IsBitSet mask (number - 1)) ↔ (is_idle event past ≡ true)
    declared zero event there = absurd cc
    declared (suc index) event there =
        let inside : index < length (declared_events past) = slice_get_within (declared_events past) index event there in
        let below : index < 64 = omega (arith, inside, stands.few_events) in
        let told : (¬ IsBitSet mask index) ↔ (is_idle event past ≡ true) =
        subst (λ (b : Bool). (¬ IsBitSet mask index) ↔ (b ≡ true)) (idle-told g state past stands index event there)
        (clear (is_wanted state.instances.items index) (IsBitSet mask index) (is index below)) in
        let same : index ≡ suc index - 1 = omega arith in
        subst (λ (k : ℕ). (¬ IsBitSet mask k) ↔ (is_idle event past ≡ true)) same told

    others : (index : ℕ) → length (declared_events past) ≤ index → index < 64 → ¬ IsBitSet mask index
    others index beyond below =
        let none = none-wanted g state past stands index beyond in
        (clear (is_wanted state.instances.items index) (IsBitSet mask index) (is index below)).1 (ap not none)
