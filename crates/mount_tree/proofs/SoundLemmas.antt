-- The requests that were done leave a scene in which names and numbers are distinct.
use Rattle.std.proofs.Common.{◌≡◌, ℕ, ◌+◌, ◌<◌, ◌≤◌, eqb, nat_lt, Bool, true, false, not, cond, List, [], ◌∷◌, ◌++◌, length, map, get_or, Option, Some, None, IsOk, Result, Ok, Err, refl, sym, ap, subst, ◌∙◌, arith, append-nil, length-append, add-zero}
use Rattle.std.specs.Cmp.{nat_eq_equiv}
use Rattle.std.specs.Cmp.Lexicographic.{nat_list_eq_equiv}
use Rattle.std.specs.List.{AllByRecursion, IsDistinct, filter, list_any}
use Rattle.std.specs.Option.{option_to_list}
use Rattle.std.specs.Str.{bytes_eq}
use Rattle.std.proofs.lemmas.Bool.{false_from_ne_true, false≢true, ne_eqb}
use Rattle.std.proofs.lemmas.List.{get_or-map, length-map, map-append}
use Rattle.std.proofs.lemmas.Map.Keys.{IsDistinct-cons, IsDistinct-from_apart, IsDistinct-head, IsDistinct-push, IsDistinct-tail}
use Rattle.std.proofs.lemmas.Slice.Eq.{bytes_eq-Decides}
use Rattle.trace_command.specs.Requests.{Request, Emission, MakeInstance, RemoveInstance, WriteFile, ReadFile}
use Rattle.trace_command.specs.declared.command.Config.{Config}
use Rattle.trace_command.specs.declared.command.Reply.{Reply}
use Rattle.trace_command.specs.declared.command.Reply.TheVariants.{Done}
use Rattle.trace_command.specs.declared.refusal.Refusal.{Refusal}
use Rattle.trace_command.specs.declared.refusal.Limit.TheVariants as limit
use Rattle.trace_command.specs.declared.refusal.Refusal.TheVariants as refusal
use Rattle.trace_format.specs.Catalogs.{AreEvents}
use Rattle.trace_format.specs.Definitions.{Definition}
use Rattle.tracer_specification.specs.History.{most_instances, named_answer}
use Rattle.tracer_specification.specs.Pasts.{AreDone}
use Rattle.tracer_specification.specs.Settings.{declared_events, declares, instance_names, is_there}
use Rattle.tracer_specification.proofs.EventLists.{one_index}
use Rattle.trace_lex.specs.Names.{is_name}
use Rattle.mount_tree.specs.Scenes.{has_folder, shown_event, without_named}
use Rattle.mount_tree.specs.ScenesAfter.{declared_event, events_after, instances_after, made_after, scene_after}
use Rattle.mount_tree.specs.TreeLaws.{IsSound}
use Rattle.mount_tree.specs.declared.scene.Event.{Event}
use Rattle.mount_tree.specs.declared.scene.Instance.{Instance}
use Rattle.mount_tree.proofs.ListLemmas.{all-append, all-filter, all-unmapped, all-weaker}
use Rattle.mount_tree.proofs.SerialLemmas.{definition_names, instance_names_of, names-events_after, names-instances_after}

-- ---- lists of keys

no_keys : IsDistinct eqb []
unfolding IsDistinct
no_keys = tt

no_names : IsDistinct bytes_eq []
unfolding IsDistinct
no_names = tt

all-map_filter : {X K : Type 0} (Q : K → Type 0) (key : X → K) (test : X → Bool) (xs : List X) → AllByRecursion Q (map key xs)
    → AllByRecursion Q (map key (filter test xs))
all-map_filter Q key test [] all = tt
all-map_filter Q key test (x ∷ xs) all = by (test x) (all-map_filter Q key test xs all.1)
  where
    by : (b : Bool) → AllByRecursion Q (map key (filter test xs)) → AllByRecursion Q (map key (cond b (x ∷ filter test xs) (filter test xs)))
    by true rest = (all.0, rest)
    by false rest = rest

distinct-filter : {X K : Type 0} (same : K → K → Bool) (key : X → K) (test : X → Bool) (xs : List X) → IsDistinct same (map key xs)
    → IsDistinct same (map key (filter test xs))
distinct-filter same key test [] distinct = distinct
distinct-filter same key test (x ∷ xs) distinct = by (test x) (distinct-filter same key test xs (IsDistinct-tail same (key x) (map key xs) distinct))
  where
    by : (b : Bool) → IsDistinct same (map key (filter test xs)) → IsDistinct same (map key (cond b (x ∷ filter test xs) (filter test xs)))
    by true rest =
        IsDistinct-cons same (key x) (map key (filter test xs))
        (all-map_filter (λ k. same (key x) k ≡ false) key test xs (IsDistinct-head same (key x) (map key xs) distinct)) rest
    by false rest = rest

none_below : (n : ℕ) (keys : List ℕ) → AllByRecursion (λ k. k < n) keys → list_any (eqb n) keys ≡ false
none_below n [] all = refl
none_below n (k ∷ keys) all =
    let below : k < n = all.0 in
    let apart : eqb n k ≡ false = ne_eqb n k (λ e. absurd (omega (arith, e, below))) in
    rw apart (none_below n keys all.1)

below-more : (n m : ℕ) (keys : List ℕ) → n ≤ m → AllByRecursion (λ k. k < n) keys → AllByRecursion (λ k. k < m) keys
below-more n m keys le all = all-weaker (λ k. k < n) (λ k. k < m) keys (λ k below. omega (arith, below, le)) all

-- numbers below one, and one more
pub record AreBelow (n : ℕ) (keys : List ℕ) : Type 0 where
  pub below : AllByRecursion (λ k. k < n) keys
  pub distinct : IsDistinct eqb keys

below-push : (n : ℕ) (keys : List ℕ) → AreBelow n keys → AreBelow (n + 1) (keys ++ n ∷ [])
below-push n keys are = record {
  below = all-append (λ k. k < n + 1) keys (n ∷ []) (below-more n (n + 1) keys (omega arith) are.below) (omega arith, tt);
  distinct = IsDistinct-push nat_eq_equiv keys n are.distinct (none_below n keys are.below);
}

-- ---- instances

pub record AreInstances (made : ℕ) (instances : List Instance) : Type 0 where
  pub names : AllByRecursion (λ (i : Instance). is_name i.name ≡ true) instances
  pub distinct : IsDistinct bytes_eq (instance_names_of instances)
  pub serials : AreBelow made (map (λ (i : Instance). i.serial) instances)

instances-push : (n : ℕ) (instances : List Instance) (name : List ℕ) → AreInstances n instances → is_name name ≡ true
    → list_any (bytes_eq name) (instance_names_of instances) ≡ false
    → AreInstances (n + 1) (instances ++ record { serial = n; name = name } ∷ [])
instances-push n instances name are good new =
    let one : Instance = record { serial = n; name = name } in record {
      names = all-append (λ (i : Instance). is_name i.name ≡ true) instances (one ∷ []) are.names (good, tt);
      distinct = subst (IsDistinct bytes_eq) (sym (map-append (λ (i : Instance). i.name) instances (one ∷ [])))
          (IsDistinct-push nat_list_eq_equiv (instance_names_of instances) name are.distinct new);
      serials = subst (AreBelow (n + 1)) (sym (map-append (λ (i : Instance). i.serial) instances (one ∷ [])))
          (below-push n (map (λ (i : Instance). i.serial) instances) are.serials);
    }

instances-left : (n : ℕ) (instances : List Instance) (name : List ℕ) → AreInstances n instances → AreInstances n (without_named name instances)
instances-left n instances name are =
    let test : Instance → Bool = λ i. not (bytes_eq i.name name) in record {
      names = all-filter (λ (i : Instance). is_name i.name ≡ true) test instances are.names;
      distinct = distinct-filter bytes_eq (λ (i : Instance). i.name) test instances are.distinct;
      serials = record {
        below = all-map_filter (λ k. k < n) (λ (i : Instance). i.serial) test instances are.serials.below;
        distinct = distinct-filter eqb (λ (i : Instance). i.serial) test instances are.serials.distinct;
      };
    }

-- an instance that was made has a name that is none of those that were there
pub record IsNewName (past : List Request) (name : List ℕ) : Type 0 where
  pub good : is_name name ≡ true
  pub new : list_any (bytes_eq name) (instance_names past) ≡ false

made-new : (past : List Request) (name : List ℕ) → IsOk (named_answer past name) → IsNewName past name
unfolding named_answer
made-new past name done = by (is_name name) (is_there (Some name) past) refl refl done
  where
    rest : Result Reply Refusal
    rest = cond (nat_lt (length (instance_names past)) most_instances) (Ok Done) (Err (refusal.TooMany limit.Instances))

    by : (good there : Bool) → is_name name ≡ good → is_there (Some name) past ≡ there
        → IsOk (cond (not good) (Err refusal.BadValue) (cond there (Err refusal.InstanceExists) rest)) → IsNewName past name
    by false there a b d = absurd (false≢true d)
    by true true a b d = absurd (false≢true d)
    by true false a b d = record { good = a; new = b }

same-instances : (n : ℕ) (instances : List Instance) → AreInstances n instances → AreInstances (n + 0) (instances ++ [])
same-instances n instances are = rw (append-nil instances, add-zero) are

pub instances-sound : (g : Config) (past : List Request) → AreDone g past → AreInstances (made_after past) (instances_after past)
instances-sound g [] done = record { names = tt; distinct = no_names; serials = record { below = tt; distinct = no_keys } }
instances-sound g (MakeInstance (Some name) ∷ past) done =
    let new = made-new past name done.0 in
    instances-push (made_after past) (instances_after past) name (instances-sound g past done.1) new.good
    (ap (λ (names : List (List ℕ)). list_any (bytes_eq name) names) (names-instances_after past) ∙ new.new)
instances-sound g (MakeInstance None ∷ past) done = same-instances (made_after past) (instances_after past) (instances-sound g past done.1)
instances-sound g (RemoveInstance (Some name) ∷ past) done =
    same-instances (made_after past) (without_named name (instances_after past))
    (instances-left (made_after past) (instances_after past) name (instances-sound g past done.1))
instances-sound g (RemoveInstance None ∷ past) done = same-instances (made_after past) (instances_after past) (instances-sound g past done.1)
instances-sound g (Emission event cpu pid pairs ∷ past) done = same-instances (made_after past) (instances_after past) (instances-sound g past done.1)
instances-sound g (WriteFile instance file append text ∷ past) done = same-instances (made_after past) (instances_after past) (instances-sound g past done.1)
instances-sound g (ReadFile instance file limit ∷ past) done = same-instances (made_after past) (instances_after past) (instances-sound g past done.1)

-- ---- events

names_are : (before events : List Definition) → AreEvents before events → AllByRecursion (λ (name : List ℕ). is_name name ≡ true) (definition_names events)
names_are before [] are = tt
names_are before (event ∷ events) are = (are.0.defined.named, names_are (before ++ event ∷ []) events are.1)

names_differ : (events : List Definition) → AreEvents [] events → IsDistinct bytes_eq (definition_names events)
names_differ [] are = no_names
names_differ (first ∷ others) are =
    let events = first ∷ others in
    let name : Definition → List ℕ = λ d. d.name in
    let many = length-map events name in
    IsDistinct-from_apart bytes_eq (definition_names events)
    (λ i j d less within.
    let second : j < length events = omega (arith, within, many) in
    let early : i < length events = omega (arith, less, second) in
    false_from_ne_true (bytes_eq (get_or (definition_names events) i d) (get_or (definition_names events) j d))
    (λ same.
    let equal = sym (get_or-map name events i first d early) ∙ (bytes_eq-Decides _ _).0 same ∙ get_or-map name events j first d second in
    absurd (omega (arith, less, one_index events i j first first are early second equal))))

shown-below : (n : ℕ) (events : List Event) (name : List ℕ) → AreBelow n (map (λ (e : Event). e.index) events)
    → AreBelow (n + 1) (map (λ (e : Event). e.index) (events ++ shown_event n name))
shown-below n events name are = by (has_folder name)
  where
    keys : List ℕ
    keys = map (λ (e : Event). e.index) events

    by : (b : Bool) → AreBelow (n + 1) (map (λ (e : Event). e.index) (events ++ cond b (record { index = n; name = name } ∷ []) []))
    by true =
        let one : Event = record { index = n; name = name } in
        subst (AreBelow (n + 1)) (sym (map-append (λ (e : Event). e.index) events (one ∷ []))) (below-push n keys are)
    by false =
        rw (append-nil events) (record { below = below-more n (n + 1) keys (omega arith) are.below; distinct = are.distinct })

pub indexes-below : (past : List Request) → AreBelow (length (declared_events past)) (map (λ (e : Event). e.index) (events_after past))
indexes-below [] = record { below = tt; distinct = no_keys }
indexes-below (request ∷ past) = by (declares request) (indexes-below past)
  where
    by : (d : Option Definition) → AreBelow (length (declared_events past)) (map (λ (e : Event). e.index) (events_after past))
        → AreBelow (length (declared_events past ++ option_to_list d))
        (map (λ (e : Event). e.index) (events_after past ++ declared_event (length (declared_events past)) d))
    by None rest = rw (append-nil (declared_events past), append-nil (events_after past)) rest
    by (Some event) rest = rw (length-append (declared_events past) (event ∷ [])) (shown-below (length (declared_events past)) (events_after past) event.name rest)

passing : (test : List ℕ → Bool) (names : List (List ℕ)) → AllByRecursion (λ (name : List ℕ). test name ≡ true) (filter test names)
passing test [] = tt
passing test (name ∷ names) = by (test name) refl (passing test names)
  where
    by : (b : Bool) → test name ≡ b → AllByRecursion (λ (n : List ℕ). test n ≡ true) (filter test names)
        → AllByRecursion (λ (n : List ℕ). test n ≡ true) (cond b (name ∷ filter test names) (filter test names))
    by true is rest = (is, rest)
    by false is rest = rest

of_events : (Q : List ℕ → Type 0) (past : List Request) → AllByRecursion Q (filter has_folder (definition_names (declared_events past)))
    → AllByRecursion (λ (e : Event). Q e.name) (events_after past)
of_events Q past all = all-unmapped Q (λ (e : Event). e.name) (events_after past) (subst (AllByRecursion Q) (sym (names-events_after past)) all)

itself : (names : List (List ℕ)) → map (λ (name : List ℕ). name) names ≡ names
itself [] = refl
itself (name ∷ names) = ap (λ (rest : List (List ℕ)). name ∷ rest) (itself names)

names_left : (names : List (List ℕ)) → IsDistinct bytes_eq names → IsDistinct bytes_eq (filter has_folder names)
names_left names distinct =
    subst (IsDistinct bytes_eq) (itself (filter has_folder names))
    (distinct-filter bytes_eq (λ (name : List ℕ). name) has_folder names (subst (IsDistinct bytes_eq) (sym (itself names)) distinct))

pub scene-sound : (g : Config) (past : List Request) → g.cpus ≤ 8 → AreDone g past → AreEvents [] (declared_events past)
    → IsSound (scene_after g.cpus past)
scene-sound g past few done are =
    let instances = instances-sound g past done in
    let names = definition_names (declared_events past) in
    let name_is : List ℕ → Type 0 = λ name. is_name name ≡ true in
    let has : List ℕ → Type 0 = λ name. has_folder name ≡ true in record {
      few_cpus = few;
      event_names = of_events name_is past (all-filter name_is has_folder names (names_are [] (declared_events past) are));
      folders = of_events has past (passing has_folder names);
      distinct_events = subst (IsDistinct bytes_eq) (sym (names-events_after past)) (names_left names (names_differ (declared_events past) are));
      distinct_indexes = (indexes-below past).distinct;
      instance_names = instances.names;
      distinct_instances = instances.distinct;
      distinct_serials = instances.serials.distinct;
    }
