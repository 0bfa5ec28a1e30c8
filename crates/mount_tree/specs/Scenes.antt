-- What a look-up needs of a tracer: how many CPUs it has, and its events and instances with their numbers, oldest first.
use Rattle.std.specs.Prelude.{ℕ, ◌+◌, ◌-◌, ◌^◌, ◌==◌, Bool, not, ◌||◌, if◌then◌else◌, List, [], ◌∷◌, ◌++◌, Option, codes}
use Rattle.std.specs.List.{filter, find}
use Rattle.std.specs.Option.{option_map}
use Rattle.std.specs.Str.{bytes_eq}
use Rattle.mount_tree.specs.declared.scene.Event.{Event}
use Rattle.mount_tree.specs.declared.scene.Instance.{Instance}

-- The events are those that have a folder, by how many were declared before each. The instances are those beside the top one, by how many were made
-- before each.
pub record SceneSeen : Type 0 where
  pub cpus : ℕ
  pub events : List Event
  pub declared : ℕ
  pub instances : List Instance
  pub made : ℕ

-- the scene of a tracer with so many CPUs of which nothing was asked yet
abbrev pub new_scene : ℕ → SceneSeen
new_scene cpus = record { cpus = cpus; events = []; declared = 0; instances = []; made = 0 }

-- `events/synthetic` has two files of its own. An event named as one of them has no folder, since no two entries of a folder have one name.
abbrev pub has_folder : List ℕ → Bool
has_folder name = not (bytes_eq name (codes "enable") || bytes_eq name (codes "filter"))

-- the event at this index, if it has a folder
abbrev pub shown_event : ℕ → List ℕ → List Event
shown_event index name = if has_folder name then record { index = index; name = name } ∷ [] else []

-- one more event is declared
abbrev pub with_event : List ℕ → SceneSeen → SceneSeen
with_event name scene = record scene { events = scene.events ++ shown_event scene.declared name; declared = scene.declared + 1 }

-- one more instance is made
abbrev pub with_instance : List ℕ → SceneSeen → SceneSeen
with_instance name scene = record scene { instances = scene.instances ++ record { serial = scene.made; name = name } ∷ []; made = scene.made + 1 }

-- the instance of this name is removed
abbrev pub without_named : List ℕ → List Instance → List Instance
without_named name instances = filter (λ (i : Instance). not (bytes_eq i.name name)) instances

abbrev pub without_instance : List ℕ → SceneSeen → SceneSeen
without_instance name scene = record scene { instances = without_named name scene.instances }

-- the event at an index, and the instance with a serial number
abbrev pub event_at : ℕ → List Event → Option Event
event_at index events = find (λ (e : Event). e.index == index) events

abbrev pub instance_at : ℕ → List Instance → Option Instance
instance_at serial instances = find (λ (i : Instance). i.serial == serial) instances

abbrev pub event_name : ℕ → List Event → Option (List ℕ)
event_name index events = option_map (λ (e : Event). e.name) (event_at index events)

abbrev pub instance_name : ℕ → List Instance → Option (List ℕ)
instance_name serial instances = option_map (λ (i : Instance). i.name) (instance_at serial instances)

-- how many events and instances a scene takes
abbrev pub most_events : ℕ
most_events = 2 ^ 8

abbrev pub most_made : ℕ
most_made = 2 ^ 32 - 1
