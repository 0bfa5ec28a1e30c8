-- The numbers of instances, and their names.
use Rattle.std.proofs.Common.{◌≡◌, ℕ, ◌<◌, eqb, Bool, true, false, not, ◌&&◌, cond, List, [], ◌∷◌, ◌++◌, length, map, Option, Some, None, is_some, refl, sym, ap, ◌∙◌, arith}
use Rattle.std.proofs.lemmas.List.{map-append}
use Rattle.std.specs.List.{filter}
use Rattle.std.specs.Option.{option_or, option_to_list}
use Rattle.std.specs.Str.{bytes_eq}
use Rattle.std.proofs.lemmas.Bool.{ne_eqb}
use Rattle.std.proofs.lemmas.List.Folds.{find-append}
use Rattle.std.proofs.lemmas.List.Elements.{filter-append}
use Rattle.trace_command.specs.Requests.{Request}
use Rattle.trace_format.specs.Definitions.{Definition}
use Rattle.tracer_specification.specs.Settings.{declared_events, declares, instance_names, made, removed, without}
use Rattle.mount_tree.specs.Children.{is_there}
use Rattle.mount_tree.specs.Nodes.{owner_of}
use Rattle.mount_tree.specs.Scenes.{SceneSeen, has_folder, instance_at, shown_event, without_named}
use Rattle.mount_tree.specs.ScenesAfter.{declared_event, events_after, instances_after, left_instances, made_after, made_instance, scene_after}
use Rattle.file_list.specs.declared.folder.Folder.TheVariants as folders
use Rattle.mount_tree.specs.declared.node.Node.{Node}
use Rattle.mount_tree.specs.declared.node.Node.TheVariants as nodes
use Rattle.mount_tree.specs.declared.node.Owner.TheVariants.{Made}
use Rattle.mount_tree.specs.declared.scene.Event.{Event}
use Rattle.mount_tree.specs.declared.scene.Instance.{Instance}
use Rattle.mount_tree.proofs.ListLemmas.{none-filter}

abbrev pub instance_names_of : List Instance → List (List ℕ)
instance_names_of instances = map (λ (i : Instance). i.name) instances

-- ---- names

left-names : (r : Option (List ℕ)) (instances : List Instance) → instance_names_of (left_instances r instances) ≡ without r (instance_names_of instances)
left-names None instances = refl
left-names (Some name) [] = refl
left-names (Some name) (i ∷ instances) = by (not (bytes_eq i.name name)) (left-names (Some name) instances)
  where
    by : (b : Bool) → instance_names_of (without_named name instances) ≡ without (Some name) (instance_names_of instances)
        → instance_names_of (cond b (i ∷ without_named name instances) (without_named name instances))
        ≡ cond b (i.name ∷ without (Some name) (instance_names_of instances)) (without (Some name) (instance_names_of instances))
    by true rest = ap (λ (names : List (List ℕ)). i.name ∷ names) rest
    by false rest = rest

made-names : (serial : ℕ) (m : Option (List ℕ)) → instance_names_of (made_instance serial m) ≡ option_to_list m
made-names serial None = refl
made-names serial (Some name) = refl

pub names-instances_after : (past : List Request) → instance_names_of (instances_after past) ≡ instance_names past
names-instances_after [] = refl
names-instances_after (request ∷ past) =
    let left = left_instances (removed request) (instances_after past) in
    map-append (λ (i : Instance). i.name) left (made_instance (made_after past) (made request))
    ∙ ap (λ (names : List (List ℕ)). names ++ instance_names_of (made_instance (made_after past) (made request)))
    (left-names (removed request) (instances_after past) ∙ ap (λ (names : List (List ℕ)). without (removed request) names) (names-instances_after past))
    ∙ ap (λ (names : List (List ℕ)). without (removed request) (instance_names past) ++ names) (made-names (made_after past) (made request))

abbrev pub event_names_of : List Event → List (List ℕ)
event_names_of events = map (λ (e : Event). e.name) events

abbrev pub definition_names : List Definition → List (List ℕ)
definition_names events = map (λ (d : Definition). d.name) events

shown-names : (index : ℕ) (name : List ℕ) → event_names_of (shown_event index name) ≡ filter has_folder (name ∷ [])
shown-names index name = by (has_folder name)
  where
    by : (b : Bool) → event_names_of (cond b (record { index = index; name = name } ∷ []) []) ≡ cond b (name ∷ []) []
    by true = refl
    by false = refl

declared-names : (index : ℕ) (d : Option Definition) → event_names_of (declared_event index d) ≡ filter has_folder (definition_names (option_to_list d))
declared-names index None = refl
declared-names index (Some event) = shown-names index event.name

pub names-events_after : (past : List Request) → event_names_of (events_after past) ≡ filter has_folder (definition_names (declared_events past))
names-events_after [] = refl
names-events_after (request ∷ past) =
    let index = length (declared_events past) in
    let new = option_to_list (declares request) in
    map-append (λ (e : Event). e.name) (events_after past) (declared_event index (declares request))
    ∙ ap (λ (names : List (List ℕ)). names ++ event_names_of (declared_event index (declares request))) (names-events_after past)
    ∙ ap (λ (names : List (List ℕ)). filter has_folder (definition_names (declared_events past)) ++ names) (declared-names index (declares request))
    ∙ sym (filter-append has_folder (definition_names (declared_events past)) (definition_names new))
    ∙ ap (λ (names : List (List ℕ)). filter has_folder names) (sym (map-append (λ (d : Definition). d.name) (declared_events past) new))

-- ---- no number comes again

none-left : (r : Option (List ℕ)) (serial : ℕ) (instances : List Instance) → instance_at serial instances ≡ None
    → instance_at serial (left_instances r instances) ≡ None
none-left None serial instances none = none
none-left (Some name) serial instances none =
    none-filter (λ (i : Instance). eqb i.serial serial) (λ (i : Instance). not (bytes_eq i.name name)) instances none

none-made : (m : Option (List ℕ)) (serial next : ℕ) → serial < next → instance_at serial (made_instance next m) ≡ None
none-made None serial next below = refl
none-made (Some name) serial next below =
    let apart : eqb next serial ≡ false = ne_eqb next serial (λ e. absurd (omega (arith, e))) in
    rw apart refl

-- an instance that was made and is not there
record IsGone (serial : ℕ) (past : List Request) : Type 0 where
  was : serial < made_after past
  none : instance_at serial (instances_after past) ≡ None

gone-more : (serial : ℕ) (past : List Request) (request : Request) → IsGone serial past → IsGone serial (request ∷ past)
gone-more serial past request gone =
    let left = left_instances (removed request) (instances_after past) in
    let new = made_instance (made_after past) (made request) in
    let was = gone.was in record {
      was = omega arith;
      none = find-append (λ (i : Instance). eqb i.serial serial) left new
          ∙ ap (λ (o : Option Instance). option_or o (instance_at serial new)) (none-left (removed request) serial (instances_after past) gone.none)
          ∙ none-made (made request) serial (made_after past) gone.was;
    }

gone-later : (serial : ℕ) (later past : List Request) → IsGone serial past → IsGone serial (later ++ past)
gone-later serial [] past gone = gone
gone-later serial (request ∷ later) past gone = gone-more serial (later ++ past) request (gone-later serial later past gone)

none-lost : (o : Option Instance) → (is_some o && true) ≡ false → o ≡ None
none-lost None lost = refl
none-lost (Some i) lost = absurd (cc)

not_there : (scene : SceneSeen) (node : Node) (serial : ℕ) → owner_of node ≡ Made serial → instance_at serial scene.instances ≡ None
    → is_there scene node ≡ false
not_there scene (nodes.Folder owner folder) serial whose none = rw (whose, none) refl
not_there scene (nodes.File owner file) serial whose none = rw (whose, none) refl

pub removed-gone : (cpus : ℕ) (later past : List Request) (node : Node) (serial : ℕ) → owner_of node ≡ Made serial → serial < made_after past
    → is_there (scene_after cpus past) (nodes.Folder (Made serial) folders.Root) ≡ false
    → is_there (scene_after cpus (later ++ past)) node ≡ false
removed-gone cpus later past node serial whose was lost =
    let gone : IsGone serial past = record { was = was; none = none-lost (instance_at serial (instances_after past)) lost } in
    not_there (scene_after cpus (later ++ past)) node serial whose (gone-later serial later past gone).none
