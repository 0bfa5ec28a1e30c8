-- The hist triggers of an instance's events, their tables, and the emissions that these count (histogram.rst, "hist triggers"). The newest request
-- comes first.
use Rattle.std.specs.Prelude.{ℕ, ◌==◌, Bool, true, false, not, ◌&&◌, if◌then◌else◌, List, [], ◌∷◌, ◌++◌, length, map, Option, Some, None, Result, Ok}
use Rattle.std.specs.List.{filter, find, flat_map, list_any}
use Rattle.std.specs.Option.{option_map}
use Rattle.std.specs.Str.{bytes_eq}
use Rattle.trace_format.specs.Operands.{Emission}
use Rattle.trace_format.specs.Definitions.{Definition}
use Rattle.trace_hist.specs.Groups.{Table, grouped}
use Rattle.trace_trigger.specs.HistSpecs.{SpecSeen}
use Rattle.hist_entries.specs.Hits.{Hit}
use Rattle.trace_hist.specs.TriggerHits.{hit_of}
use Rattle.trace_trigger.specs.SameSpecs.{is_same as is_same_spec}
use Rattle.trace_trigger.specs.FittingSpecs.{is_fitting}
use Rattle.trace_trigger.specs.declared.spec.Action.{Action}
use Rattle.trace_trigger.specs.declared.spec.Action.TheVariants.{Pause, Continue, Clear}
use Rattle.trace_trigger.specs.TriggerTexts.{said_of}
use Rattle.trace_trigger.specs.declared.fault.TriggerFault.{TriggerFault}
use Rattle.trace_trigger.specs.declared.trigger.TriggerText.{TriggerText}
use Rattle.trace_trigger.specs.declared.trigger.TriggerText.TheVariants.{Hist, RemoveHist}
use Rattle.trace_command.specs.Paths.{OfEvent}
use Rattle.trace_command.specs.Requests.{Request, WriteFile}
use Rattle.trace_command.specs.declared.file_name.EventFile.TheVariants as per_event
use Rattle.tracer_specification.specs.Emissions.{Emitted, emitted}
use Rattle.tracer_specification.specs.Settings.{NumberedEvent, event_named, is_same, makes}
use Rattle.tracer_specification.specs.Triggers.{met_by}

-- ---- triggers that are attached

-- a hist trigger of an event is known by how many requests were done before the one that attached it; with it comes what that one says of it, and
-- which table counts its rows. A table is known by the number of the trigger that it was made with; those of one name share it.
pub record HistTrigger : Type 0 where
  pub event : Definition
  pub number : ℕ
  pub spec : SpecSeen
  pub table : ℕ

-- whether it is one of an event; events are told apart by their names
abbrev pub is_of : Definition → HistTrigger → Bool
is_of event t = bytes_eq event.name t.event.name

-- those of an event
abbrev pub those_of : Definition → List HistTrigger → List HistTrigger
those_of event hists = filter (is_of event) hists

-- whether a hist trigger says the same as a string: it has the same name, keys, values, sort keys and filter
abbrev pub says_same : SpecSeen → HistTrigger → Bool
says_same spec t = is_same_spec spec t.spec

-- whether one of them does
abbrev pub has_same : SpecSeen → List HistTrigger → Bool
has_same spec hists = list_any (says_same spec) hists

-- `>` takes an event's hist triggers away before the string takes effect, `>>` keeps them: what is left of the event's own
abbrev pub kept_by : Bool → List HistTrigger → List HistTrigger
kept_by append hists = if append then hists else []

-- and what of all
abbrev pub left_by : Definition → Bool → List HistTrigger → List HistTrigger
left_by event append hists = if append then hists else filter (λ t. not (is_of event t)) hists

-- ---- tables with a name

-- whether two names are there and the same
abbrev pub is_name_of : Option (List ℕ) → Option (List ℕ) → Bool
is_name_of (Some name) (Some other) = bytes_eq name other
is_name_of name other = false

-- whether a string names the table of a hist trigger
abbrev pub names_table_of : SpecSeen → HistTrigger → Bool
names_table_of spec t = is_name_of spec.name t.spec.name

-- the hist trigger whose table a string names, the first of an instance
abbrev pub named_by : SpecSeen → List HistTrigger → Option HistTrigger
named_by spec hists = find (names_table_of spec) hists

-- the table of the trigger that a string attaches as the request of this number: the one that it names, if that is there; else a new one
abbrev pub table_or : ℕ → Option HistTrigger → ℕ
table_or number None = number
table_or number (Some t) = t.table

-- whether a string fits the table that it names, if that is there
abbrev pub fits_that : SpecSeen → Option HistTrigger → Bool
fits_that spec None = true
fits_that spec (Some t) = is_fitting spec t.spec

-- the one that a string attaches to an event, as the request of this number, where the instance has these
abbrev pub new_hist : ℕ → Definition → List HistTrigger → SpecSeen → HistTrigger
new_hist number event hists spec = record { event = event; number = number; spec = spec; table = table_or number (named_by spec hists) }

-- the hist triggers after a string that the request of this number writes for an event: one is attached if none of the event says the same, or the
-- same one is removed. Any other string leaves those that are there.
abbrev pub hists_said : ℕ → Definition → List HistTrigger → Result TriggerText TriggerFault → List HistTrigger
hists_said number event hists (Ok (Hist spec)) =
    if has_same spec (those_of event hists) then hists else hists ++ new_hist number event hists spec ∷ []
hists_said number event hists (Ok (RemoveHist spec)) = filter (λ t. not (is_of event t && says_same spec t)) hists
hists_said number event hists said = hists

-- what a request writes to the trigger file of an event of an instance: which event that is of those declared before, whether it is by `>>`, and the
-- string
pub record Written : Type 0 where
  pub event : Definition
  pub append : Bool
  pub text : List ℕ

abbrev pub written_to : Option (List ℕ) → List Request → Request → Option Written
written_to instance past (WriteFile other (Some (OfEvent name per_event.Trigger)) append text) =
    if is_same instance other then option_map (λ (k : NumberedEvent). record { event = k.event; append = append; text = text }) (event_named name past)
    else None
written_to instance past request = None

-- what of it is for an event
abbrev pub written_for : Definition → Option Written → Option Written
written_for event None = None
written_for event (Some w) = if bytes_eq w.event.name event.name then Some w else None

-- the hist triggers after the request of this number, which writes this, if anything
abbrev pub hists_after : ℕ → Option Written → List HistTrigger → List HistTrigger
hists_after number None hists = hists
hists_after number (Some w) hists = hists_said number w.event (left_by w.event w.append hists) (said_of w.event w.text)

-- the hist triggers of all events of an instance, in the order in which they were attached
abbrev pub hist_triggers : Option (List ℕ) → List Request → List HistTrigger
hist_triggers instance [] = []
hist_triggers instance (request ∷ past) =
    if makes instance request then [] else hists_after (length past) (written_to instance past request) (hist_triggers instance past)

-- those of an event
abbrev pub hists_of : Option (List ℕ) → Definition → List Request → List HistTrigger
hists_of instance event past = those_of event (hist_triggers instance past)

-- ---- pauses

-- whether a string speaks of a table through one of these triggers, which is the one that says the same
abbrev pub speaks_of : SpecSeen → ℕ → HistTrigger → Bool
speaks_of spec table t = says_same spec t && (t.table == table)

abbrev pub is_pause : Action → Bool
is_pause Pause = true
is_pause action = false

-- what a string asks of a table, where an event has these hist triggers after it: one of them says the same, be it that the string attached it
abbrev pub asked_of : ℕ → List HistTrigger → Result TriggerText TriggerFault → Option Action
asked_of table hists (Ok (Hist spec)) = if list_any (speaks_of spec table) hists then Some spec.action else None
asked_of table hists said = None

-- what is written asks of a table, where an instance has these hist triggers after it
abbrev pub asked_in : ℕ → List HistTrigger → Option Written → Option Action
asked_in table hists None = None
asked_in table hists (Some w) = asked_of table (those_of w.event hists) (said_of w.event w.text)

-- what a request asks of a table
abbrev pub asked_by : Option (List ℕ) → ℕ → List Request → Request → Option Action
asked_by instance table past request = asked_in table (hist_triggers instance (request ∷ past)) (written_to instance past request)

-- whether a table is paused after it was asked for something
abbrev pub paused_after : Option Action → Bool → Bool
paused_after (Some Pause) paused = true
paused_after (Some Continue) paused = false
paused_after asked paused = paused

-- whether a table is paused: as it was asked last, by the strings too that attached its triggers
abbrev pub is_paused : Option (List ℕ) → ℕ → List Request → Bool
is_paused instance table [] = false
is_paused instance table (request ∷ past) = paused_after (asked_by instance table past request) (is_paused instance table past)

-- ---- the emissions that a table counts

-- what a histogram takes of an emission
abbrev pub counted_row : Emitted → Emission
counted_row e = record { values = e.row.values; cpu = e.cpu; pid = e.pid }

-- and what a trigger reads of it
abbrev pub counted_hit : HistTrigger → Emitted → Hit
counted_hit t e = hit_of t.spec (counted_row e)

-- the rows that a table counts of an emission: those that its triggers meet
abbrev pub met_in : ℕ → Option Emitted → HistTrigger → List Hit
met_in table e t = if t.table == table then map (counted_hit t) (met_by t.event t.spec.filter e) else []

-- and none while it is paused
abbrev pub counted_by : ℕ → Bool → List HistTrigger → Option Emitted → List Hit
counted_by table true hists e = []
counted_by table false hists e = flat_map (met_in table e) hists

-- whether what is asked for empties the table
abbrev pub empties : Option Action → Bool
empties (Some Clear) = true
empties asked = false

-- the rows that a table counted since it was made or last emptied, the newest last
abbrev pub hits_of : Option (List ℕ) → ℕ → List Request → List Hit
hits_of instance table [] = []
hits_of instance table (request ∷ past) =
    if empties (asked_by instance table past request) then []
    else hits_of instance table past ++ counted_by table (is_paused instance table past) (hist_triggers instance past) (emitted past request)

-- the entries and totals of a trigger's table
abbrev pub table_of : Option (List ℕ) → HistTrigger → List Request → Table
table_of instance t past = grouped t.spec (hits_of instance t.table past)
