-- A change that was made keeps what a state stands for.
use Rattle.std.proofs.Common.{◌≡◌, ℕ, suc, ◌+◌, ◌<◌, ◌≤◌, Bool, false, not, List, [], ◌∷◌, ◌++◌, length, take, drop, get_or, All, Option, Some, None, Ok, refl, sym, ap, ◌∙◌, subst, ⊎_elim, arith, append-nil, length-append}
use Rattle.std.proofs.lemmas.Bool.{cases_eq}
use Rattle.std.proofs.lemmas.List.{map-append}
use Rattle.std.proofs.lemmas.List.Elements.{All-append, All-drop, All-push, All-same, All-take}
use Rattle.std.proofs.lemmas.List.Filters.{length-filter_both}
use Rattle.std.specs.List.{AllByRecursion, IsDistinct, filter}
use Rattle.std.specs.Option.{option_to_list}
use Rattle.std.specs.Str.{bytes_eq}
use Rattle.trace_format.specs.Catalogs.{AreEvents}
use Rattle.trace_format.specs.Definitions.{Definition}
use Rattle.trace_command.specs.Configs.{IsInRange}
use Rattle.trace_command.specs.Requests.{Request, Emission}
use Rattle.trace_command.specs.declared.command.Config.{Config}
use Rattle.trace_command.specs.declared.command.Reply.{Reply}
use Rattle.trace_command.specs.declared.command.Reply.TheVariants.{Done}
use Rattle.tracer_specification.specs.Declarations.{IsFit}
use Rattle.tracer_specification.specs.History.{answer_with_room}
use Rattle.tracer_specification.specs.Settings.{declares, declared_events, instance_names, is_born, is_same, made, removed, ticks}
use Rattle.tracer_specification.proofs.EventLists.{AreEvents-push}
use Rattle.tracer_specification.proofs.Events.{fit-push}
use Rattle.trace_instance.specs.Instances.{InstanceSeen, InstanceStandsFor}
use Rattle.tracer_state.specs.States.{IsChangeOf, IsDeclared, IsEmission, IsFresh, IsMade, IsEmitted, IsPrepared, IsPreparedEmission, HasChanged, IsReady, IsRemoved, IsStep, StandsFor, names_of, reach_at}
use Rattle.trace_instance.specs.Deliveries.{row_of}
use Rattle.tracer_specification.specs.HistTriggers.{counted_row}
use Rattle.tracer_state.specs.EventPlans.{IsPlanned}
use Rattle.tracer_state.specs.declared.change.Change.{Change}
use Rattle.tracer_state.specs.declared.change.Change.TheVariants.{Declare, Make, Remove, Instance}
use Rattle.trace_instance.specs.declared.change.InstanceChange.{InstanceChange}
use Rattle.trace_instance.specs.declared.change.Delivery.{Delivery}
use Rattle.tracer_state.specs.declared.state.Named.{Named}
use Rattle.tracer_state.specs.declared.state.Prepared.{Prepared}
use Rattle.tracer_state.specs.declared.state.State.{State}
use Rattle.tracer_state.proofs.EachInstance.{distinct-push, distinct-without, first, length-names_of, name_at, names-same, names-without, not_born, others_differ, some_names}
use Rattle.tracer_state.proofs.PlanSteps.{plans-after-emission}
use Rattle.trace_instance.proofs.Delivered.{delivered-stands}
use Rattle.trace_instance.proofs.Steps.{declared-stands, effect-stands, event_named-before, kept-stands, unfiltered_after, unknown_after, untriggered_after, unwatched_after}

-- a request moves the clock by 1 at most
ticks-le : (request : Request) → ticks request ≤ 1
ticks-le (Emission event cpu pid pairs) = omega arith
ticks-le request = omega arith

-- the instances are what the requests say of them
record AreInstances (g : Config) (past : List Request) (instances : List Named) : Type 0 where
  names : names_of instances ≡ None ∷ some_names (instance_names past)
  few : length (instance_names past) ≤ 7
  distinct : IsDistinct bytes_eq (instance_names past)
  each : All (λ (n : Named). InstanceStandsFor g n.name past n.instance) instances

-- a request that is done after those that a state stands for
module _ (g : Config) (old new : State) (past : List Request) (request : Request) (reply : Reply) (stands : StandsFor g old past)
    (given : answer_with_room g past request ≡ Ok reply) where
  -- what holds of the events holds of them after it, where it holds also with one more that can be declared
  events-after : (declared : Option Definition) (P : List Definition → Type 0) → declares request ≡ declared
      → ((event : Definition) → declared ≡ Some event → IsFresh g past event)
      → ((event : Definition) → IsFresh g past event → P (declared_events past) → P (declared_events past ++ event ∷ [])) → P (declared_events past)
      → P (declared_events (request ∷ past))
  events-after None P is fresh push before = rw (is, append-nil) before
  events-after (Some event) P is fresh push before = rw is (push event (fresh event refl) before)

  -- the state after it, with what became of its events, its clock and its instances
  state-after : (declared : Option Definition) → declares request ≡ declared
      → ((event : Definition) → declared ≡ Some event → IsFresh g past event) → new.catalog ≡ old.catalog ++ option_to_list declared
      → new.clock ≡ old.clock + ticks request → IsPlanned new → AreInstances g (request ∷ past) new.instances.items → StandsFor g new (request ∷ past)
  state-after declared is fresh catalog clock planned instances = record {
    events = catalog ∙ ap (λ (events : List Definition). events ++ option_to_list declared) stands.events
        ∙ ap (λ (d : Option Definition). declared_events past ++ option_to_list d) (sym is);
    few_events = events-after declared (λ events. length events ≤ 64) is fresh (λ event one few. rw length-append (omega (arith, one.few)))
        stands.few_events;
    fit = events-after declared (AllByRecursion (IsFit g.page_bytes)) is fresh
        (λ event one fit. fit-push g.page_bytes (declared_events past) event fit one.fit) stands.fit;
    distinct = events-after declared (AreEvents []) is fresh
        (λ event one are. AreEvents-push [] (declared_events past) event are one.is_event) stands.distinct;
    unknown = λ name event none.
        let before = event_named-before event past request none in
        unknown_after g past request reply name event given before (stands.unknown name event before);
    unfiltered = λ name event none.
        let before = event_named-before event past request none in
        unfiltered_after g past request reply name event given before (stands.unfiltered name event before);
    untriggered = λ name event none.
        let before = event_named-before event.name past request none in
        untriggered_after g past request reply name event given before (stands.untriggered name event before);
    unwatched = λ name event none.
        let before = event_named-before event.name past request none in
        unwatched_after g past request reply name event given before (stands.unwatched name event before);
    clock = clock ∙ ap (λ (n : ℕ). n + ticks request) stands.clock;
    early = let small = ticks-le request in omega (arith, small, clock, stands.early);
    names = instances.names;
    few_instances = instances.few;
    distinct_names = instances.distinct;
    each = instances.each;
    planned = planned;
  }

  -- where it declares no event
  undeclared-after : declares request ≡ None → new.catalog ≡ old.catalog → new.clock ≡ old.clock + ticks request → IsPlanned new
      → AreInstances g (request ∷ past) new.instances.items → StandsFor g new (request ∷ past)
  undeclared-after is catalog = state-after None is (λ event impossible. cc) (catalog ∙ sym (append-nil old.catalog))

  -- where it makes and removes no instance, each has its name still, and each is what the requests say of it, the instances are
  same_instances : made request ≡ None → removed request ≡ None → length new.instances.items ≡ length old.instances.items
      → ((k : ℕ) (d : Named) → k < length old.instances.items → (get_or new.instances.items k d).name ≡ (get_or old.instances.items k d).name)
      → ((k : ℕ) (d : Named) → k < length old.instances.items
      → InstanceStandsFor g (get_or old.instances.items k d).name (request ∷ past) (get_or new.instances.items k d).instance)
      → AreInstances g (request ∷ past) new.instances.items
  same_instances no_made no_removed many names each =
      let kept : instance_names (request ∷ past) ≡ instance_names past = rw (no_made, no_removed, append-nil) refl in record {
        names = names-same old.instances.items new.instances.items many names ∙ stands.names
            ∙ ap (λ (l : List (List ℕ)). None ∷ some_names l) (sym kept);
        few = rw kept stands.few_instances;
        distinct = rw kept stands.distinct_names;
        each = λ k d inside.
            let within : k < length old.instances.items = omega (arith, inside, many) in
            subst (λ (name : Option (List ℕ)). InstanceStandsFor g name (request ∷ past) (get_or new.instances.items k d).instance)
            (sym (names k d within)) (each k d within);
      }

  -- ---- the changes

  declare_stands : (event : Definition) → IsDeclared g past request event → HasChanged old new (Declare event) → IsPlanned new
      → StandsFor g new (request ∷ past)
  declare_stands event is step planned =
      let came = step.2 in
      let none = is.fresh.unknown in
      state-after (Some event) is.declares
      (λ other same. subst (λ (o : Definition). IsFresh g past o) (let e : event ≡ other = cc in e) is.fresh) step.0
      (omega (arith, is.ticks, step.1)) planned
      (same_instances is.made is.removed came.many came.names
      (λ k d inside.
      let name = (get_or old.instances.items k d).name in
      subst (λ (i : InstanceSeen). InstanceStandsFor g name (request ∷ past) i) (sym (came.came k d inside))
      (declared-stands g name past request event (get_or old.instances.items k d).instance is.declares (is.effect name)
      (unknown_after g past request reply name event.name given none (stands.unknown name event.name none))
      (unfiltered_after g past request reply name event.name given none (stands.unfiltered name event.name none))
      (untriggered_after g past request reply name event given none (stands.untriggered name event none))
      (unwatched_after g past request reply name event given none (stands.unwatched name event none))
      (stands.each k d inside))))

  make_stands : (named : Named) → IsMade g past request named → new.catalog ≡ old.catalog → new.clock ≡ old.clock
      → new.instances.items ≡ old.instances.items ++ named ∷ [] → IsPlanned new → StandsFor g new (request ∷ past)
  make_stands named is catalog clock came planned =
      let names = instance_names past in
      let items = old.instances.items in
      let now : instance_names (request ∷ past) ≡ names ++ is.name ∷ [] = rw (is.removed, is.made) refl in
      let P : Named → Type 0 = λ n. InstanceStandsFor g n.name (request ∷ past) n.instance in
      let others : All P items = λ k d inside.
      let name = (get_or items k d).name in
      let within : k < suc (length names) = omega (arith, inside, length-names_of items names stands.names) in
      let not_it : is_born (Some is.name) name ≡ false =
      ap (λ (n : Option (List ℕ)). is_born (Some is.name) n) (name_at items _ k d stands.names inside) ∙ not_born names is.name k is.new within in
      kept-stands g name past request (get_or items k d).instance is.declares
      (is.effect name (ap (λ (m : Option (List ℕ)). is_born m name) is.made ∙ not_it)) (stands.each k d inside) in
      let own : P named = subst (λ (name : Option (List ℕ)). InstanceStandsFor g name (request ∷ past) named.instance) (sym is.called) is.stands in
      undeclared-after is.declares catalog (omega (arith, is.ticks, clock)) planned (record {
        names = ap names_of came ∙ map-append (λ (n : Named). n.name) items (named ∷ [])
            ∙ ap (λ (l : List (Option (List ℕ))). l ++ named.name ∷ []) stands.names
            ∙ ap (λ (n : Option (List ℕ)). None ∷ (some_names names ++ n ∷ [])) is.called
            ∙ ap (λ (l : List (Option (List ℕ))). None ∷ l) (sym (map-append (λ (n : List ℕ). Some n) names (is.name ∷ [])))
            ∙ ap (λ (l : List (List ℕ)). None ∷ some_names l) (sym now);
        few = rw (now, length-append) (let few = is.few in omega arith);
        distinct = rw now (distinct-push names is.name stands.distinct_names is.new);
        each = All-same P new.instances.items (items ++ named ∷ []) came (All-push P items named others own);
      })

  remove_stands : (index : ℕ) → IsRemoved g past request index → HasChanged old new (Remove index) → IsPlanned new
      → StandsFor g new (request ∷ past)
  remove_stands index is step planned =
      let names = instance_names past in
      let items = old.instances.items in
      let test : List ℕ → Bool = λ other. not (bytes_eq other is.name) in
      let now : instance_names (request ∷ past) ≡ filter test names = rw (is.removed, is.made, append-nil) refl in
      let P : Named → Type 0 = λ n. InstanceStandsFor g n.name (request ∷ past) n.instance in
      let all : All P items = λ k d inside.
      let name = (get_or items k d).name in
      kept-stands g name past request (get_or items k d).instance is.declares (is.effect name) (stands.each k d inside) in
      let inside : index < suc (length names) = omega (arith, is.inside) in
      undeclared-after is.declares step.0 (omega (arith, is.ticks, step.1)) planned (record {
        names = ap names_of step.2 ∙ names-without items names index is.name stands.names stands.distinct_names inside is.there
            ∙ ap (λ (l : List (List ℕ)). None ∷ some_names l) (sym now);
        few = rw now (omega (arith, stands.few_instances, length-filter_both test (λ (other : List ℕ). not (test other)) (λ other. refl) names));
        distinct = rw now (distinct-without is.name names stands.distinct_names);
        each = All-same P new.instances.items (take index items ++ drop (index + 1) items) step.2
            (All-append P (take index items) (drop (index + 1) items) (All-take P index items all) (All-drop P (index + 1) items all));
      })

  change_stands : (index : ℕ) (change : InstanceChange) → IsChangeOf g old past request (Instance index change) → index < length old.instances.items
      → HasChanged old new (Instance index change) → IsPlanned new → StandsFor g new (request ∷ past)
  change_stands index change is there step planned =
      let names = instance_names past in
      let items = old.instances.items in
      let came = step.2 in
      let many = length-names_of items names stands.names in
      let plain = (is (first items (omega (arith, there)))).0.plain in
      let each : (k : ℕ) (d : Named) → k < length items → InstanceStandsFor g (get_or items k d).name (request ∷ past) (get_or new.instances.items k d).instance =
      λ k d inside. ⊎_elim
      (λ (e : k ≡ index). subst
      (λ (j : ℕ). InstanceStandsFor g (get_or items j d).name (request ∷ past) (get_or new.instances.items j d).instance) (sym e)
      (effect-stands g (get_or items index d).name past request change (get_or items index d).instance (get_or new.instances.items index d).instance
      plain.declares (is d).1 (stands.each index d there) (came.came d)))
      (λ (other : k ≡ index → ⊥).
      let name = (get_or items k d).name in
      let differ : is_same name (get_or items index d).name ≡ false =
      ap (λ (n : Option (List ℕ)). is_same n (get_or items index d).name) (name_at items _ k d stands.names inside)
      ∙ ap (λ (n : Option (List ℕ)). is_same (get_or (None ∷ some_names names) k None) n) (name_at items _ index d stands.names there)
      ∙ others_differ names k index stands.distinct_names (omega (arith, inside, many)) (omega (arith, there, many)) other in
      subst (λ (n : Named). InstanceStandsFor g name (request ∷ past) n.instance) (sym (came.others k d inside other))
      (kept-stands g name past request (get_or items k d).instance plain.declares ((is d).0.others name differ) (stands.each k d inside)))
      (cases_eq k index) in
      undeclared-after plain.declares step.0 (omega (arith, plain.ticks, step.1)) planned
      (same_instances plain.made plain.removed came.many came.names each)

  emit_stands : (delivery : Delivery) → IsEmission g past request old.instances.items delivery → IsEmitted old new delivery
      → StandsFor g new (request ∷ past)
  emit_stands delivery is step =
      let came = step.2 in
      let row : row_of delivery ≡ counted_row is.e = λ i. record { values = is.row i; cpu = is.cpu i; pid = is.pid i } in
      undeclared-after is.declares step.0 (omega (arith, is.ticks, step.1)) (plans-after-emission delivery old new step.0 step.3 came stands.planned)
      (same_instances is.made is.removed came.many came.names (λ k d inside.
      let n = get_or old.instances.items k d in
      delivered-stands g n.name past request is.e delivery (reach_at delivery.reaches k) n.instance (get_or new.instances.items k d).instance is.emitted
      stands.distinct (stands.each k d inside) is.index (is.records k d inside) (is.snapshot_fires k d inside) is.cpu (λ on. is.bytes k d inside on) row
      (came.came k d inside)))

  step_stands : (change : Change) → IsChangeOf g old past request change → IsReady g old change → HasChanged old new change → IsPlanned new
      → StandsFor g new (request ∷ past)
  step_stands (Declare event) is ready step planned = declare_stands event is step planned
  step_stands (Make made) is ready step planned = make_stands made.value is step.0 step.1 step.2 planned
  step_stands (Remove index) is ready step planned = remove_stands index is step planned
  step_stands (Instance index change) is ready step planned = change_stands index change is ready.0 step planned

pub stands_after : (g : Config) (old new : State) (past : List Request) (request : Request) (prepared : Prepared) → IsInRange g → StandsFor g old past
    → IsPrepared g past request old (Ok prepared) → IsStep old new prepared.change → StandsFor g new (request ∷ past)
stands_after g old new past request prepared range stands is step =
    step_stands g old new past request prepared.reply stands is.0 prepared.change is.1 is.2 step.0 step.1

pub stands_after_emission : (g : Config) (old new : State) (past : List Request) (request : Request) (delivery : Delivery) → StandsFor g old past
    → IsPreparedEmission g past request old delivery → IsEmitted old new delivery → StandsFor g new (request ∷ past)
stands_after_emission g old new past request delivery stands is step = emit_stands g old new past request Done stands is.0 delivery is.1 step
