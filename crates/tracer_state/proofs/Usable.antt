-- A state that stands for a past is fit for one more command, and a new state stands for none.
use Rattle.std.proofs.Common.{◌≡◌, ℕ, ◌<◌, ◌≤◌, false, List, [], ◌∷◌, length, get_or, All, Option, Some, None, refl, sym, ap, ◌∙◌, subst, arith}
use Rattle.std.proofs.lemmas.List.Elements.{All-cons, All-nil, All-same}
use Rattle.std.specs.List.{AllByRecursion, IsDistinct}
use Rattle.std.specs.Str.{bytes_eq}
use Rattle.trace_format.specs.Catalogs.{AreEvents}
use Rattle.trace_format.specs.Definitions.{Definition}
use Rattle.trace_command.specs.Configs.{IsInRange}
use Rattle.trace_command.specs.Requests.{Request}
use Rattle.trace_command.specs.declared.command.Config.{Config}
use Rattle.tracer_specification.specs.Declarations.{IsFit}
use Rattle.tracer_specification.specs.Settings.{declared_events, instance_names, is_same}
use Rattle.trace_instance.specs.Instances.{InstanceSeen, InstanceStandsFor, IsUsableInstance}
use Rattle.tracer_specification.specs.Pasts.{AreDone}
use Rattle.trace_instance.specs.Deliveries.{HasFew, HasFewRows, most_requests}
use Rattle.tracer_state.specs.States.{IsUsable, StandsFor, names_of}
use Rattle.tracer_state.specs.declared.state.Named.{Named}
use Rattle.tracer_state.specs.declared.state.State.{State}
use Rattle.tracer_state.proofs.EachInstance.{length-names_of, name_at, some_names}
use Rattle.trace_instance.proofs.UsableInstance.{few_offers, has_room, hits_within, usable-stands}

-- ---- names

differ_from_top : (names : List (List ℕ)) → AllByRecursion (λ (o : Option (List ℕ)). is_same None o ≡ false) (some_names names)
differ_from_top [] = tt
differ_from_top (n ∷ names) = (refl, differ_from_top names)

differ_from_name : (name : List ℕ) (names : List (List ℕ)) → AllByRecursion (λ (m : List ℕ). bytes_eq name m ≡ false) names
    → AllByRecursion (λ (o : Option (List ℕ)). is_same (Some name) o ≡ false) (some_names names)
differ_from_name name [] all = tt
differ_from_name name (n ∷ names) all = (all.0, differ_from_name name names all.1)

distinct-some_names : (names : List (List ℕ)) → IsDistinct bytes_eq names → IsDistinct is_same (some_names names)
unfolding IsDistinct
distinct-some_names [] distinct = tt
distinct-some_names (n ∷ names) distinct = (differ_from_name n names distinct.0, distinct-some_names names distinct.1)

distinct-with_top : (names : List (List ℕ)) → IsDistinct bytes_eq names → IsDistinct is_same (None ∷ some_names names)
unfolding IsDistinct
distinct-with_top names distinct = (differ_from_top names, distinct-some_names names distinct)

-- ---- a state that stands for a past

usable_instance : (g : Config) (state : State) (past : List Request) (name : Option (List ℕ)) (i : InstanceSeen) → state.catalog ≡ declared_events past
    → InstanceStandsFor g name past i → IsUsableInstance g (length state.catalog) i
usable_instance g state past name i events stands =
    subst (λ (l : List Definition). IsUsableInstance g (length l) i) (sym events) (usable-stands g name past i stands)

pub usable_from_stands : (g : Config) (state : State) (past : List Request) → IsInRange g → StandsFor g state past → length past ≤ most_requests
    → IsUsable g state
usable_from_stands g state past range stands short =
    let items = state.instances.items in
    let many = length-names_of items (instance_names past) stands.names in record {
      early = omega (arith, stands.early, short);
      few_events = subst (λ (l : List Definition). length l ≤ 64) (sym stands.events) stands.few_events;
      fit = subst (λ (l : List Definition). AllByRecursion (IsFit g.page_bytes) l) (sym stands.events) stands.fit;
      distinct = subst (λ (l : List Definition). AreEvents [] l) (sym stands.events) stands.distinct;
      some_instance = omega (arith, many);
      few_instances = omega (arith, many, stands.few_instances);
      top = λ d. name_at items _ 0 d stands.names (omega (arith, many));
      distinct_names = subst (λ (l : List (Option (List ℕ))). IsDistinct is_same l) (sym stands.names)
          (distinct-with_top (instance_names past) stands.distinct_names);
      each = λ k d inside. usable_instance g state past _ _ stands.events (stands.each k d inside);
      planned = stands.planned;
    }

pub few_from_stands : (g : Config) (state : State) (past : List Request) → StandsFor g state past → length past < most_requests
    → All (λ (n : Named). HasFew n.instance) state.instances.items
few_from_stands g state past stands short = λ k d inside. few_offers (length past) _ short (stands.each k d inside).offered.0

pub few_rows_from_stands : (g : Config) (state : State) (past : List Request) → AreDone g past → StandsFor g state past → length past < most_requests
    → All (λ (n : Named). HasFewRows n.instance) state.instances.items
few_rows_from_stands g state past done stands short = λ k d inside n attached there j a within.
    let name = (get_or state.instances.items k d).name in
    let i = (get_or state.instances.items k d).instance in
    let own = get_or (get_or i.hists n attached) j a in
    has_room name past i.tables own ((stands.each k d inside).tables n attached there j a within)
    (hits_within g name own.table past done) short

-- ---- a new state

pub stands_new : (g : Config) (state : State) (top : Named) → state.catalog ≡ [] → state.clock ≡ 0 → state.instances.items ≡ top ∷ [] → top.name ≡ None
    → InstanceStandsFor g None [] top.instance → length state.plans.items ≡ 64 → StandsFor g state []
unfolding IsDistinct
stands_new g state top events clock instances name stands room =
    let P : Named → Type 0 = λ n. InstanceStandsFor g n.name [] n.instance in
    let own : P top = subst (λ (n : Option (List ℕ)). InstanceStandsFor g n [] top.instance) (sym name) stands in record {
      events = events;
      few_events = omega arith;
      fit = tt;
      distinct = tt;
      unknown = λ other event none. refl;
      unfiltered = λ other event none. refl;
      untriggered = λ other event none. refl;
      unwatched = λ other event none. refl;
      clock = clock;
      early = omega (arith, clock);
      names = ap names_of instances ∙ ap (λ (n : Option (List ℕ)). n ∷ []) name;
      few_instances = omega arith;
      distinct_names = tt;
      each = All-same P state.instances.items (top ∷ []) instances (All-cons P top [] own (All-nil P));
      planned = record {
        many = room;
        each = λ event p inside. absurd (omega (arith, ap (λ (l : List Definition). length l) events, inside));
      };
    }
