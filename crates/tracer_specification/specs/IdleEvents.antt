-- Events that nobody wants: an emission of one that is done changes the clock alone, and the number of commands done (events.rst, "Using Event Tracing";
-- ftrace.rst, "The File System"; `idle_emissions_only_tick` of history_laws). The newest request comes first.
use Rattle.std.specs.Prelude.{ℕ, Bool, false, not, ◌&&◌, ◌||◌, List, ◌∷◌, map, Option, Some, None}
use Rattle.std.specs.List.{list_any}
use Rattle.trace_command.specs.Requests.{Request, Emission}
use Rattle.trace_format.specs.Definitions.{Definition}
use Rattle.tracer_specification.specs.HistTriggers.{hists_of, is_paused}
use Rattle.tracer_specification.specs.Settings.{NumberedEvent, event_named, instance_names, is_enabled, is_tracing}
use Rattle.tracer_specification.specs.Triggers.{Trigger, is_left, snapshot_trigger_of, times_left}

-- whether an instance records an event's emissions, those of which the event's filter holds
abbrev pub records : Option (List ℕ) → Definition → List Request → Bool
records instance event past = is_tracing instance past && is_enabled instance event.name past

-- whether it has a hist trigger of the event that is not paused
abbrev pub has_active_hist : Option (List ℕ) → Definition → List Request → Bool
has_active_hist instance event past = list_any (λ t. not (is_paused instance t.table past)) (hists_of instance event past)

-- whether an event's trigger for snapshots, if it has one, has times left or no limit
abbrev pub has_times_left : Definition → Option Trigger → List Request → Bool
has_times_left event None past = false
has_times_left event (Some t) past = is_left (times_left event t past)

-- An instance wants an event that it records or that a trigger may act on. Filters are not asked, those of triggers neither.
abbrev pub wants : Option (List ℕ) → Definition → List Request → Bool
wants instance event past =
    records instance event past
    || (has_active_hist instance event past || has_times_left event (snapshot_trigger_of instance event past) past)

-- the instances that are there: the top one and those that were made
abbrev pub instances : List Request → List (Option (List ℕ))
instances past = None ∷ map (λ name. Some name) (instance_names past)

-- an event is idle if no instance that is there wants it
abbrev pub is_idle : Definition → List Request → Bool
is_idle event past = not (list_any (λ instance. wants instance event past) (instances past))

-- whether an event that was looked up by its name is declared, and idle
abbrev pub is_found_idle : Option NumberedEvent → List Request → Bool
is_found_idle None past = false
is_found_idle (Some k) past = is_idle k.event past

-- whether a request emits an event that is declared and idle after this past, whatever its row is (one that is refused is not among what was done)
abbrev pub emits_idle : List Request → Request → Bool
emits_idle past (Emission name cpu pid pairs) = is_found_idle (event_named name past) past
emits_idle past request = false
