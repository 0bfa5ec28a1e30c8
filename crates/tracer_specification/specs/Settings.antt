-- What the requests that were done say of instances, and of events, their switches and filters, overwriting, recording and the clock
-- (ftrace.rst, "The File System", "Instances"; events.rst, "Using Event Tracing"). The newest request comes first.
use Rattle.std.specs.Prelude.{ℕ, ◌+◌, ◌==◌, Bool, true, false, not, if◌then◌else◌, List, [], ◌∷◌, ◌++◌, Option, Some, None, unwrap_or, is_ok, is_some, codes}
use Rattle.std.specs.List.{filter, list_any}
use Rattle.std.specs.Option.{option_map, option_and_then, option_to_list}
use Rattle.std.specs.Result.{result_ok}
use Rattle.std.specs.Str.{bytes_eq}
use Rattle.trace_lex.specs.Blanks.{trimmed}
use Rattle.trace_lex.specs.Decimals.{written_number}
use Rattle.trace_command.specs.Paths.{File, SyntheticEvents, OfInstance, OfEvent}
use Rattle.trace_command.specs.declared.file_name.EventFile.TheVariants as per_event
use Rattle.trace_command.specs.declared.file_name.TopFile.TheVariants as top
use Rattle.trace_filter.specs.Filters.{Parsed, parsed_of, answer_of}
use Rattle.trace_format.specs.Catalogs.{id_of, event_of}
use Rattle.trace_format.specs.Definitions.{Definition}
use Rattle.trace_format.specs.Reading.{definition_of}
use Rattle.trace_command.specs.Requests.{Request, Emission, MakeInstance, RemoveInstance, WriteFile}

-- ---- instances

-- the name of the instance that a request makes; likewise for one that it removes
abbrev pub made : Request → Option (List ℕ)
made (MakeInstance (Some name)) = Some name
made _ = None

abbrev pub removed : Request → Option (List ℕ)
removed (RemoveInstance (Some name)) = Some name
removed _ = None

-- names without one of them, if there is one to leave out
abbrev pub without : Option (List ℕ) → List (List ℕ) → List (List ℕ)
without None names = names
without (Some name) names = filter (λ other. not (bytes_eq other name)) names

-- the names of the instances that are there beside the top one, in the order in which they were made
abbrev pub instance_names : List Request → List (List ℕ)
instance_names [] = []
instance_names (request ∷ past) = without (removed request) (instance_names past) ++ option_to_list (made request)

-- an instance is known by its name; the top one has none, and is always there
abbrev pub is_there : Option (List ℕ) → List Request → Bool
is_there None past = true
is_there (Some name) past = list_any (bytes_eq name) (instance_names past)

-- the same instance
abbrev pub is_same : Option (List ℕ) → Option (List ℕ) → Bool
is_same None None = true
is_same (Some name) (Some other) = bytes_eq name other
is_same _ _ = false

-- whether the instance that a request makes, if it makes one, is this one: its life begins then
abbrev pub is_born : Option (List ℕ) → Option (List ℕ) → Bool
is_born None instance = false
is_born (Some name) None = false
is_born (Some name) (Some other) = bytes_eq name other

abbrev pub makes : Option (List ℕ) → Request → Bool
makes instance request = is_born (made request) instance

-- what a request sets by a write to a file of the instance
abbrev pub set_by : {A : Type 0} → Option (List ℕ) → (File → List ℕ → Option A) → Request → Option A
set_by instance sets (WriteFile other (Some file) append text) = if is_same instance other then sets file text else None
set_by instance sets _ = None

-- what the newest write of an instance's life that sets a setting says, or the default where none does. What a write sets may depend on the
-- requests that were done before it. Of an instance that was removed it still says something; no answer shows that, and it begins anew when the
-- instance is made again.
abbrev pub setting : {A : Type 0} → Option (List ℕ) → (List Request → File → List ℕ → Option A) → A → List Request → A
setting instance sets default [] = default
setting instance sets default (request ∷ past) =
    if makes instance request then default
    else unwrap_or (set_by instance (sets past) request) (setting instance sets default past)

-- ---- events

-- the event that a request declares; only the top instance has the file (`file_of_instance`). `definition_of` gives the one definition that
-- the words of a text spell, as `Declares` says of them (trace_format).
abbrev pub declares : Request → Option Definition
declares (WriteFile instance (Some SyntheticEvents) append text) = result_ok (definition_of text)
declares _ = None

-- the events, in order of declaration
abbrev pub declared_events : List Request → List Definition
declared_events [] = []
declared_events (request ∷ past) = declared_events past ++ option_to_list (declares request)

-- an event with its id: the events are numbered from 1 in order of declaration
pub record NumberedEvent : Type 0 where
  pub id : ℕ
  pub event : Definition

-- the event of this id among events
abbrev pub numbered_event : List Definition → ℕ → Option NumberedEvent
numbered_event events id = option_map (λ event. record { id = id; event = event }) (event_of events id)

-- the event of this name among events
abbrev pub event_named_in : List Definition → List ℕ → Option NumberedEvent
event_named_in events name = option_and_then (numbered_event events) (id_of events name)

-- the event of this name that was declared
abbrev pub event_named : List ℕ → List Request → Option NumberedEvent
event_named name past = event_named_in (declared_events past) name

-- the switch that is written to a file: 0 is off, 1 is on, another number is neither
unfoldable pub written_flag : List ℕ → Option Bool
written_flag text = option_and_then (λ n. if n == 0 then Some false else (if n == 1 then Some true else None)) (written_number text)

-- how a write after this past switches an event: one to its own switch or, where it is declared by then, to that of all events
abbrev pub switches : List ℕ → List Request → File → List ℕ → Option Bool
switches event past (OfEvent name per_event.Enable) text = if bytes_eq event name then written_flag text else None
switches event past (OfInstance top.EventsEnable) text = if is_some (event_named event past) then written_flag text else None
switches event past file text = None

-- an event is disabled until it is switched on
abbrev pub is_enabled : Option (List ℕ) → List ℕ → List Request → Bool
is_enabled instance event past = setting instance (switches event) false past

-- a `0`, perhaps between blanks, clears a filter
unfoldable pub clears_filter : List ℕ → Bool
clears_filter text = bytes_eq (trimmed text) (codes "0")

-- an event can take a filter where the text is one of the event. `answer_of` gives a filter for just the texts that are short and shallow
-- enough, that the grammar has and that suit the event's fields: those that are one by `IsFilter`, as trace_filter's law
-- `filters_are_as_written` says. So the filter that an event has in a legal history is one: `FiltersAreOfTheirEvents`.
unfoldable pub can_take : List ℕ → Definition → Bool
can_take text event = is_ok (answer_of event text)

-- the filter that a text writes: none where it clears
abbrev pub written_filter : List ℕ → Option (List ℕ)
written_filter text = if clears_filter text then None else Some text

-- what a write to the filter of all events sets for one: nothing where it is not declared or can't take the filter
abbrev pub written_to_all : List ℕ → Option NumberedEvent → Option (Option (List ℕ))
written_to_all text None = None
written_to_all text (Some k) = if clears_filter text then Some None else (if can_take text k.event then Some (Some text) else None)

-- the filter that a write after this past sets for an event
abbrev pub sets_filter : List ℕ → List Request → File → List ℕ → Option (Option (List ℕ))
sets_filter event past (OfEvent name per_event.Filter) text = if bytes_eq event name then Some (written_filter text) else None
sets_filter event past (OfInstance top.EventsFilter) text = written_to_all text (event_named event past)
sets_filter event past file text = None

-- an event's filter as it was written, none until one is set
abbrev pub filter_of : Option (List ℕ) → List ℕ → List Request → Option (List ℕ)
filter_of instance event past = setting instance (sets_filter event) None past

-- an event's filter as an instance keeps it
abbrev pub kept_filter : Option (List ℕ) → List Request → Definition → Option Parsed
kept_filter instance past event = option_map (parsed_of event) (filter_of instance event.name past)

-- the word of an option that is written to `trace_options`, exactly
unfoldable pub written_option : List ℕ → Option Bool
written_option text =
    if bytes_eq text (codes "overwrite") then Some true else (if bytes_eq text (codes "nooverwrite") then Some false else None)

-- how a write sets whether records may overwrite older ones
abbrev pub sets_overwrite : List Request → File → List ℕ → Option Bool
sets_overwrite past (OfInstance top.Overwrite) text = written_flag text
sets_overwrite past (OfInstance top.TraceOptions) text = written_option text
sets_overwrite past file text = None

-- records overwrite older ones unless that was switched off
abbrev pub overwrites : Option (List ℕ) → List Request → Bool
overwrites instance past = setting instance sets_overwrite true past

-- a number that is written to `tracing_on`: 0 is off, any other is on
unfoldable pub written_tracing : List ℕ → Option Bool
written_tracing text = option_map (λ n. not (n == 0)) (written_number text)

-- how a write sets whether an instance records
abbrev pub sets_tracing : List Request → File → List ℕ → Option Bool
sets_tracing past (OfInstance top.TracingOn) text = written_tracing text
sets_tracing past file text = None

-- an instance records unless that was switched off
abbrev pub is_tracing : Option (List ℕ) → List Request → Bool
is_tracing instance past = setting instance sets_tracing true past

-- how far a request moves the clock: each emission counts, recorded or not
abbrev pub ticks : Request → ℕ
ticks (Emission event cpu pid pairs) = 1
ticks _ = 0

-- the clock
abbrev pub now_of : List Request → ℕ
now_of [] = 0
now_of (request ∷ past) = now_of past + ticks request
