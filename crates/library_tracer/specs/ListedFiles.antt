-- The list of the files that there are after some requests.
use Rattle.std.specs.Prelude.{ℕ, List, [], map}
use Rattle.trace_command.specs.Requests.{Request}
use Rattle.trace_command.specs.declared.command.Config.{Config}
use Rattle.tracer_specification.specs.Settings.{declared_events, instance_names}
use Rattle.file_list.specs.Listings.{listing}
use Rattle.file_list.specs.Names.{NamesSeen}

abbrev pub event_names : List Request → List (List ℕ)
event_names past = map (λ event. event.name) (declared_events past)

-- the names of the events and instances that there are after these requests
abbrev pub names_of : List Request → NamesSeen
names_of past = record { events = event_names past; instances = instance_names past; gone = [] }

-- the files after them, as `tracectl --list` lists them
abbrev pub files_after : Config → List Request → List ℕ
files_after config past = listing config.cpus (names_of past)
