-- Instances that are made and removed.
use Rattle.std.proofs.Common.{◌≡◌, ℕ, suc, ◌<◌, ◌≤◌, ltb, true, false, List, ◌∷◌, length, get_or, All, is_some, Option, Some, None, Ok, Err, refl, sym, ◌∙◌, arith}
use Rattle.std.specs.Global.{Box}
use Rattle.std.specs.List.{list_any}
use Rattle.std.specs.Str.{bytes_eq}
use Rattle.std.proofs.lemmas.Bool.{lt-ltb, false_from_ne_true, false≢true}
use Rattle.std.proofs.lemmas.Bool.Decides.{nat_tests}
use Rattle.std.proofs.lemmas.List.Folds.{list_any_at}
use Rattle.trace_lex.specs.Names.{is_name}
use Rattle.trace_format.specs.Definitions.{Definition}
use Rattle.trace_command.specs.Requests.{Request, MakeInstance, RemoveInstance}
use Rattle.trace_command.specs.declared.command.Config.{Config}
use Rattle.trace_command.specs.declared.command.Reply.TheVariants.{Done}
use Rattle.trace_command.specs.declared.refusal.Limit.TheVariants.{Instances}
use Rattle.trace_command.specs.declared.refusal.Refusal.TheVariants.{BadValue, InstanceExists, Memory, NoSuchInstance, TooMany}
use Rattle.tracer_specification.specs.History.{named_answer}
use Rattle.tracer_specification.specs.Settings.{declared_events, instance_names, is_enabled, is_there, kept_filter, makes}
use Rattle.tracer_specification.proofs.EventLists.{map-agrees}
use Rattle.tracer_specification.proofs.OwnFiles.{bytes-differ}
use Rattle.trace_instance.specs.Changes.{IsEffect}
use Rattle.trace_instance.specs.Instances.{InstanceStandsFor}
use Rattle.tracer_state.specs.States.{IsPrepared, StandsFor}
use Rattle.tracer_state.specs.declared.change.Change.TheVariants.{Make, Remove}
use Rattle.trace_instance.specs.declared.change.InstanceChange.TheVariants.{Keep}
use Rattle.tracer_state.specs.declared.state.Named.{Named}
use Rattle.tracer_state.specs.declared.state.State.{State}
use Rattle.trace_instance.proofs.Calm.{calm-effect, calm-make, calm-remove, no_event, quiet-keep}
use Rattle.trace_instance.proofs.Answering.{done-late}
use Rattle.trace_instance.proofs.Snapshotting.{refused}
use Rattle.tracer_state.proofs.Dispatch.{stands-at}
use Rattle.tracer_state.proofs.EachInstance.{first, length-names_of, name_at}
use Rattle.tracer_state.proofs.Resolving.{found-there, lost-there, place_in}

-- ---- which instances are there

-- an instance is there exactly if it has an index
pub there-index : (g : Config) (state : State) (past : List Request) (name : Option (List ℕ)) (found : Option ℕ) → StandsFor g state past
    → place_in state name ≡ found → is_there name past ≡ is_some found
there-index g state past name None stands is = lost-there g state past name stands is
there-index g state past name (Some index) stands is = (found-there g state past name index stands is).0

-- the instance at the index of its name is what the requests say of it
pub found-stands : (g : Config) (state : State) (past : List Request) (name : Option (List ℕ)) (index : ℕ) (named : Named) → StandsFor g state past
    → place_in state name ≡ Some index → named ≡ get_or state.instances.items index named → InstanceStandsFor g name past named.instance
found-stands g state past name index named stands is = stands-at g state past index name named stands (found-there g state past name index stands is).1

-- a name that is none of these differs from each
all-differ : (name : List ℕ) (names : List (List ℕ)) → list_any (bytes_eq name) names ≡ false → All (λ (other : List ℕ). bytes_eq other name ≡ false) names
all-differ name names none = λ k d inside. bytes-differ name (get_or names k d)
    (false_from_ne_true (bytes_eq name (get_or names k d)) (λ is. false≢true (sym none ∙ list_any_at (bytes_eq name) names k d inside is)))

-- ---- a new instance

-- the others stay as they are
made-effect : (g : Config) (past : List Request) (name : List ℕ) (other : Option (List ℕ)) → makes other (MakeInstance (Some name)) ≡ false
    → IsEffect g other past (MakeInstance (Some name)) Keep
made-effect g past name None differ =
    calm-effect g None past (MakeInstance (Some name)) Keep (calm-make name None past differ) quiet-keep
    (record { enabled = refl; filters = refl; overwrite = refl; tracing = refl; rings = refl })
made-effect g past name (Some other) differ =
    let events = declared_events past in
    let now = MakeInstance (Some name) ∷ past in
    calm-effect g (Some other) past (MakeInstance (Some name)) Keep (calm-make name (Some other) past differ) quiet-keep
    (record {
      enabled = map-agrees (λ (e : Definition). is_enabled (Some other) e.name now) (λ (e : Definition). is_enabled (Some other) e.name past) events no_event
          (λ j inside. rw differ refl);
      filters = map-agrees (kept_filter (Some other) now) (kept_filter (Some other) past) events no_event (λ j inside. rw differ refl);
      overwrite = rw differ refl;
      tracing = rw differ refl;
      rings = rw differ refl;
    })

-- nor does a removal change what is said of an instance
removed-effect : (g : Config) (past : List Request) (name : List ℕ) (other : Option (List ℕ)) → IsEffect g other past (RemoveInstance (Some name)) Keep
removed-effect g past name other =
    calm-effect g other past (RemoveInstance (Some name)) Keep (calm-remove (Some name) other past) quiet-keep
    (record { enabled = refl; filters = refl; overwrite = refl; tracing = refl; rings = refl })

-- ---- answers

pub make-bad_name : (g : Config) (state : State) (past : List Request) (path : Option (List ℕ)) (name : List ℕ) → path ≡ Some name → is_name name ≡ false
    → IsPrepared g past (MakeInstance path) state (Err BadValue)
unfolding named_answer
make-bad_name g state past path name is bad = rw is (refused BadValue (named_answer past name) (rw bad refl))

pub make-exists : (g : Config) (state : State) (past : List Request) (path : Option (List ℕ)) (name : List ℕ) (found : Option ℕ) → StandsFor g state past
    → path ≡ Some name → is_name name ≡ true → place_in state (Some name) ≡ found → is_some found ≡ true
    → IsPrepared g past (MakeInstance path) state (Err InstanceExists)
unfolding named_answer
make-exists g state past path name found stands is good at some =
    let there : is_there (Some name) past ≡ true = there-index g state past (Some name) found stands at ∙ some in
    rw is (refused InstanceExists (named_answer past name) (rw (good, there) refl))

-- the path is that of an instance that isn't there, and its name is one
pub record IsNewPath (g : Config) (state : State) (past : List Request) (path : Option (List ℕ)) (name : List ℕ) : Type 0 where
  pub stands : StandsFor g state past
  pub is : path ≡ Some name
  pub good : is_name name ≡ true
  pub new : is_there (Some name) past ≡ false

module _ {g : Config} {state : State} {past : List Request} {path : Option (List ℕ)} {name : List ℕ} (path_is : IsNewPath g state past path name) where
  many_names : length state.instances.items ≡ suc (length (instance_names past))
  many_names = length-names_of state.instances.items (instance_names past) path_is.stands.names

  pub make-too_many : 8 ≤ length state.instances.items → IsPrepared g past (MakeInstance path) state (Err (TooMany Instances))
  unfolding named_answer
  make-too_many many =
      let full : 7 ≤ length (instance_names past) = omega (arith, many_names, many) in
      let no : ltb (length (instance_names past)) 7 ≡ false = grind (arith, nat_tests) in
      rw path_is.is (refused (TooMany Instances) (named_answer past name) (rw (path_is.good, path_is.new, no) refl))

  can_be_made : length state.instances.items < 8 → named_answer past name ≡ Ok Done
  unfolding named_answer
  can_be_made few = rw (path_is.good, path_is.new, lt-ltb (length (instance_names past)) 7 (omega (arith, many_names, few))) refl

  pub make-memory : length state.instances.items < 8 → IsPrepared g past (MakeInstance path) state (Err Memory)
  make-memory few = rw path_is.is (done-late (named_answer past name) (can_be_made few))

  pub make-done : (made : Box Named) → length state.instances.items < 8 → made.value.name ≡ Some name
      → InstanceStandsFor g (Some name) (MakeInstance (Some name) ∷ past) made.value.instance
      → IsPrepared g past (MakeInstance path) state (Ok (record { change = Make made; reply = Done }))
  make-done made few called own = rw path_is.is (
    can_be_made few,
    record {
      declares = refl;
      name = name;
      called = called;
      made = refl;
      removed = refl;
      ticks = refl;
      few = omega (arith, many_names, few);
      new = all-differ name (instance_names past) path_is.new;
      stands = own;
      effect = made-effect g past name;
    },
    tt,
  )

pub remove-lost : (g : Config) (state : State) (past : List Request) (name : List ℕ) → StandsFor g state past → place_in state (Some name) ≡ None
    → IsPrepared g past (RemoveInstance (Some name)) state (Err NoSuchInstance)
remove-lost g state past name stands at =
    let gone : is_there (Some name) past ≡ false = there-index g state past (Some name) None stands at in
    refused NoSuchInstance _ (rw gone refl)

pub remove-done : (g : Config) (state : State) (past : List Request) (name : List ℕ) (index : ℕ) → StandsFor g state past
    → place_in state (Some name) ≡ Some index
    → IsPrepared g past (RemoveInstance (Some name)) state (Ok (record { change = Remove index; reply = Done }))
remove-done g state past name index stands at =
    let there = found-there g state past (Some name) index stands at in
    let names = instance_names past in
    let items = state.instances.items in
    let inside = there.1.0 in
    let many = length-names_of items names stands.names in
    let some = first items (omega (arith, inside)) in (
      rw there.0 refl,
      record {
        declares = refl;
        name = name;
        made = refl;
        removed = refl;
        ticks = refl;
        inside = omega (arith, inside, many);
        there = sym (name_at items _ index some stands.names inside) ∙ there.1.1 some;
        effect = λ other. removed-effect g past name other;
      },
      inside,
    )
