-- The scene after the requests that were done, of which the newest comes first: the instances and events, with their numbers.
use Rattle.std.specs.Prelude.{ℕ, ◌+◌, List, [], ◌∷◌, ◌++◌, length, Option, Some, None}
use Rattle.std.specs.Option.{option_to_list}
use Rattle.trace_command.specs.Requests.{Request}
use Rattle.trace_format.specs.Definitions.{Definition}
use Rattle.tracer_specification.specs.Settings.{declared_events, declares, made, removed}
use Rattle.mount_tree.specs.Scenes.{SceneSeen, shown_event, without_named}
use Rattle.mount_tree.specs.declared.scene.Event.{Event}
use Rattle.mount_tree.specs.declared.scene.Instance.{Instance}

-- how many instances were made
abbrev pub made_after : List Request → ℕ
made_after [] = 0
made_after (request ∷ past) = made_after past + length (option_to_list (made request))

-- the instance of this name, of which so many were made before
abbrev pub made_instance : ℕ → Option (List ℕ) → List Instance
made_instance serial None = []
made_instance serial (Some name) = record { serial = serial; name = name } ∷ []

abbrev pub left_instances : Option (List ℕ) → List Instance → List Instance
left_instances None instances = instances
left_instances (Some name) instances = without_named name instances

-- the instances that are there beside the top one, in the order in which they were made
abbrev pub instances_after : List Request → List Instance
instances_after [] = []
instances_after (request ∷ past) =
    left_instances (removed request) (instances_after past) ++ made_instance (made_after past) (made request)

-- the event of a definition, of which so many were declared before, if it has a folder
abbrev pub declared_event : ℕ → Option Definition → List Event
declared_event index None = []
declared_event index (Some event) = shown_event index event.name

-- the events that have a folder, in order of declaration
abbrev pub events_after : List Request → List Event
events_after [] = []
events_after (request ∷ past) = events_after past ++ declared_event (length (declared_events past)) (declares request)

-- the scene of a tracer with so many CPUs
abbrev pub scene_after : ℕ → List Request → SceneSeen
scene_after cpus past = record {
  cpus = cpus;
  events = events_after past;
  declared = length (declared_events past);
  instances = instances_after past;
  made = made_after past;
}
