-- The answer that the requests done so far give a request, and which histories are legal. The newest request comes first.
use Rattle.std.specs.Prelude.{ℕ, ◌+◌, ◌<◌, ◌^◌, nat_lt, Bool, not, ◌&&◌, ◌||◌, is_some, IsOk, if◌then◌else◌, List, [], ◌∷◌, length, map, reverse, All, Option, Some, None, Result, Ok, Err, ⊤}
use Rattle.std.specs.List.{list_any}
use Rattle.std.specs.Result.{result_map_both}
use Rattle.trace_command.specs.Paths.{File, SyntheticEvents, OfInstance, OfCpu, OfEvent}
use Rattle.trace_command.specs.declared.file_name.CpuFile.TheVariants as per_cpu
use Rattle.trace_command.specs.declared.file_name.EventFile.TheVariants as per_event
use Rattle.trace_command.specs.declared.file_name.TopFile.TheVariants as top
use Rattle.trace_filter.specs.declared.fault.FilterFault.{FilterFault}
use Rattle.trace_filter.specs.Filters.{Parsed, answer_of}
use Rattle.trace_trigger.specs.HistSpecs.{SpecSeen}
use Rattle.trace_trigger.specs.declared.spec.Action.{Action}
use Rattle.trace_trigger.specs.declared.spec.Action.TheVariants.{Attach, Continue, Clear}
use Rattle.trace_lex.specs.Names.{is_name}
use Rattle.trace_format.specs.Catalogs.{id_for}
use Rattle.trace_format.specs.Cells.{Cells}
use Rattle.trace_format.specs.Definitions.{Definition}
use Rattle.trace_format.specs.Reading.{definition_of, cause_in}
use Rattle.trace_format.specs.Rows.{row_of}
use Rattle.trace_format.specs.declared.fault.CatalogFault.{CatalogFault}
use Rattle.trace_format.specs.declared.fault.DeclarationCause.{DeclarationCause}
use Rattle.trace_format.specs.declared.pair.Pair.{Pair}
use Rattle.trace_trigger.specs.TriggerTexts.{said_of}
use Rattle.trace_trigger.specs.declared.fault.TriggerFault.{TriggerFault}
use Rattle.trace_trigger.specs.declared.trigger.TriggerText.{TriggerText}
use Rattle.trace_trigger.specs.declared.trigger.TriggerText.TheVariants.{Nothing, AttachSnapshot, RemoveSnapshot, Hist, RemoveHist}
use Rattle.trace_command.specs.Requests.{Request, Emission, MakeInstance, RemoveInstance, WriteFile, ReadFile, request_of, FitsItsTypes}
use Rattle.tracer_specification.specs.FileTexts.{shown_pipe, shown_cpu_pipe, shown_snapshot, shown_trace, cpu_stats_text, declarations_text, filter_text, flag_text, format_of_event, hists_of_event, option_text, switches_text, triggers_of_event}
use Rattle.tracer_specification.specs.Settings.{NumberedEvent, event_named, declared_events, filter_of, is_enabled, is_tracing, overwrites, written_flag, written_option, written_tracing, instance_names, is_there, clears_filter, can_take}
use Rattle.trace_command.specs.Refusals.{refusal_of_catalog, refusal_of_filter, refusal_of_trigger}
use Rattle.tracer_specification.specs.Snapshots.{SnapshotWrite, Frees, Takes, Empties, written_snapshot}
use Rattle.tracer_specification.specs.Triggers.{Trigger, snapshot_trigger_of, has_snapshot_trigger}
use Rattle.tracer_specification.specs.HistTriggers.{HistTrigger, fits_that, has_same, hist_triggers, hists_of, kept_by, left_by, named_by}
use Rattle.trace_command.specs.Commands.{Command}
use Rattle.trace_command.specs.declared.command.Config.{Config}
use Rattle.trace_command.specs.declared.command.Entry.{Entry}
use Rattle.trace_command.specs.declared.command.Reply.{Reply}
use Rattle.trace_command.specs.declared.command.Reply.TheVariants.{Done, Text}
use Rattle.trace_command.specs.declared.refusal.Limit.TheVariants as limit
use Rattle.trace_command.specs.declared.refusal.Refusal.{Refusal}
use Rattle.trace_command.specs.declared.refusal.Refusal.TheVariants.{NoSuchFile, NotReadable, NotWritable, BadValue, NoSuchEvent, BadDefinition, TriggerExists, NoSuchTrigger, TooMany, InstanceExists, NoSuchInstance, Busy, NoSuchCpu, BadRow, HistoryFull}

-- ---- emissions

-- the row is read last
abbrev pub event_answer : Option NumberedEvent → List Pair → Result Reply Refusal
event_answer None pairs = Err NoSuchEvent
event_answer (Some k) pairs = result_map_both (λ row. Done) BadRow (row_of k.event pairs)

-- an emission: first its CPU, then its event, then its row
unfoldable pub emission_answer : Config → List Request → List ℕ → ℕ → List Pair → Result Reply Refusal
emission_answer g past name cpu pairs = if nat_lt cpu g.cpus then event_answer (event_named name past) pairs else Err NoSuchCpu

-- ---- what a write to each file answers

-- an event that is added: first its name, then its fields and the number of events, then its record's size
abbrev pub added_answer : Result ℕ CatalogFault → Result Reply Refusal
added_answer id = result_map_both (λ id. Done) refusal_of_catalog id

-- a declaration: first its text, which is refused at the place where it is wrong, for this cause; then whether it may begin anew, and then whether it can
-- be added
abbrev pub read_declaration_answer : Config → List Request → Bool → DeclarationCause → Result Definition ℕ → Result Reply Refusal
read_declaration_answer g past append cause (Ok definition) =
    if not append && nat_lt 0 (length (declared_events past)) then Err Busy else added_answer (id_for (declared_events past) definition g.page_bytes)
read_declaration_answer g past append cause (Err at) = Err (BadDefinition at cause)

unfoldable pub declaration_answer : Config → List Request → Bool → List ℕ → Result Reply Refusal
declaration_answer g past append text = read_declaration_answer g past append (cause_in text) (definition_of text)

-- a switch: 0 or 1
unfoldable pub switch_answer : List ℕ → Result Reply Refusal
switch_answer text = if is_some (written_flag text) then Ok Done else Err BadValue

-- a filter that an event can take, or why it can't
abbrev pub taken_answer : Result Parsed FilterFault → Result Reply Refusal
taken_answer filter = result_map_both (λ filter. Done) refusal_of_filter filter

-- a filter of an event: the text that clears, or one that the event can take
unfoldable pub filter_answer : List ℕ → Definition → Result Reply Refusal
filter_answer text event = if clears_filter text then Ok Done else taken_answer (answer_of event text)

-- the event's name is one that was declared
abbrev pub named_filter_answer : List ℕ → Option NumberedEvent → Result Reply Refusal
named_filter_answer text None = Err NoSuchEvent
named_filter_answer text (Some k) = filter_answer text k.event

-- a filter of all events: done where it clears or some event can take it, else refused as the first event refuses it; without an event
-- always refused
unfoldable pub filter_of_all_answer : List ℕ → List Definition → Result Reply Refusal
filter_of_all_answer text [] = Err NoSuchEvent
filter_of_all_answer text (event ∷ events) =
    if list_any (can_take text) (event ∷ events) then Ok Done else filter_answer text event

-- the word of an option
unfoldable pub option_answer : List ℕ → Result Reply Refusal
option_answer text = if is_some (written_option text) then Ok Done else Err BadValue

-- a number that switches recording on or off
unfoldable pub tracing_answer : List ℕ → Result Reply Refusal
tracing_answer text = if is_some (written_tracing text) then Ok Done else Err BadValue

-- a number that is written to `snapshot`: the spare is not freed while some event has a trigger that needs it
abbrev pub spare_answer : Bool → Option SnapshotWrite → Result Reply Refusal
spare_answer in_use None = Err BadValue
spare_answer in_use (Some Frees) = if in_use then Err Busy else Ok Done
spare_answer in_use (Some Takes) = Ok Done
spare_answer in_use (Some Empties) = Ok Done

unfoldable pub snapshot_answer : Option (List ℕ) → List Request → List ℕ → Result Reply Refusal
snapshot_answer instance past text = spare_answer (has_snapshot_trigger instance past) (written_snapshot text)

abbrev pub trigger_count : Option Trigger → List HistTrigger → ℕ
trigger_count None hists = length hists
trigger_count (Some t) hists = length hists + 1

-- one more trigger: an event may have four in an instance, of all kinds
abbrev pub room_answer : Option Trigger → List HistTrigger → Result Reply Refusal
room_answer attached hists = if nat_lt (trigger_count attached hists) 4 then Ok Done else Err (TooMany limit.Triggers)

-- what is asked of a hist trigger that is attached
abbrev pub asked_answer : Action → Result Reply Refusal
asked_answer Attach = Err TriggerExists
asked_answer action = Ok Done

-- a table that a text names and doesn't fit is there already
abbrev pub fitting_answer : Bool → Result Reply Refusal → Result Reply Refusal
fitting_answer fits (Ok reply) = if fits then Ok reply else Err TriggerExists
fitting_answer fits (Err refusal) = Err refusal

-- and of one that is not: to go on or to be emptied is asked in vain. A new one needs room, and then it has to fit the table that it names
abbrev pub new_hist_answer : Option Trigger → List HistTrigger → Bool → Action → Result Reply Refusal
new_hist_answer attached hists fits Continue = Err NoSuchTrigger
new_hist_answer attached hists fits Clear = Err NoSuchTrigger
new_hist_answer attached hists fits action = fitting_answer fits (room_answer attached hists)

-- of an event with these hist triggers, in an instance with those
abbrev pub hist_answer : Option Trigger → List HistTrigger → List HistTrigger → SpecSeen → Result Reply Refusal
hist_answer attached hists all spec =
    if has_same spec hists then asked_answer spec.action
    else new_hist_answer attached hists (fits_that spec (named_by spec all)) spec.action

-- a hist trigger is removed: by `>`, which takes all of them away, whether there is the same one or not
abbrev pub remove_hist_answer : Bool → List HistTrigger → SpecSeen → Result Reply Refusal
remove_hist_answer append hists spec = if not append || has_same spec hists then Ok Done else Err NoSuchTrigger

-- a trigger text, for an event with this trigger for snapshots, if it has one, and with the hist triggers that `>` or `>>` leaves, of the event and
-- of all events
abbrev pub said_answer : Bool → Option Trigger → List HistTrigger → List HistTrigger → Result TriggerText TriggerFault → Result Reply Refusal
said_answer append attached hists all (Err fault) = Err (refusal_of_trigger fault)
said_answer append attached hists all (Ok Nothing) = Ok Done
said_answer append None hists all (Ok (AttachSnapshot spec)) = room_answer None hists
said_answer append (Some t) hists all (Ok (AttachSnapshot spec)) = Err TriggerExists
said_answer append None hists all (Ok RemoveSnapshot) = Err NoSuchTrigger
said_answer append (Some t) hists all (Ok RemoveSnapshot) = Ok Done
said_answer append attached hists all (Ok (Hist spec)) = hist_answer attached hists all spec
said_answer append attached hists all (Ok (RemoveHist spec)) = remove_hist_answer append hists spec

unfoldable pub trigger_answer : Option (List ℕ) → List Request → Bool → List ℕ → Definition → Result Reply Refusal
trigger_answer instance past append text event =
    said_answer append (snapshot_trigger_of instance event past) (kept_by append (hists_of instance event past))
    (left_by event append (hist_triggers instance past)) (said_of event text)

-- the event's name is one that was declared
abbrev pub named_trigger_answer : Option (List ℕ) → List Request → Bool → List ℕ → Option NumberedEvent → Result Reply Refusal
named_trigger_answer instance past append text None = Err NoSuchEvent
named_trigger_answer instance past append text (Some k) = trigger_answer instance past append text k.event

-- ---- the files

-- a file of an instance: what it shows where it is read whole, and what a write of a string to it answers, by `>>` or by `>`
pub record FileRule : Type 0 where
  pub shows : List ℕ
  pub written : Bool → List ℕ → Result Reply Refusal

abbrev pub read_and_written : List ℕ → (Bool → List ℕ → Result Reply Refusal) → FileRule
read_and_written text written = record { shows = text; written = written }

-- one that can't be written
abbrev pub only_read : List ℕ → FileRule
only_read text = read_and_written text (λ append text. Err NotWritable)

-- each file. A pipe and the filter of all events are not read whole. A write of any string to a trace is done.
abbrev pub rule_of : Config → Option (List ℕ) → List Request → File → FileRule
rule_of g instance past SyntheticEvents = read_and_written (declarations_text past) (declaration_answer g past)
rule_of g instance past (OfInstance top.Trace) = read_and_written (shown_trace g instance past None) (λ append text. Ok Done)
rule_of g instance past (OfInstance top.TracePipe) = only_read []
rule_of g instance past (OfInstance top.Overwrite) = read_and_written (flag_text (overwrites instance past)) (λ append. switch_answer)
rule_of g instance past (OfInstance top.TraceOptions) = read_and_written (option_text (overwrites instance past)) (λ append. option_answer)
rule_of g instance past (OfInstance top.TracingOn) = read_and_written (flag_text (is_tracing instance past)) (λ append. tracing_answer)
rule_of g instance past (OfInstance top.Snapshot) = read_and_written (shown_snapshot g instance past) (λ append. snapshot_answer instance past)
rule_of g instance past (OfInstance top.EventsEnable) =
    read_and_written (switches_text (map (λ event. is_enabled instance event.name past) (declared_events past))) (λ append. switch_answer)
rule_of g instance past (OfInstance top.EventsFilter) = read_and_written [] (λ append text. filter_of_all_answer text (declared_events past))
rule_of g instance past (OfCpu cpu per_cpu.Trace) = read_and_written (shown_trace g instance past (Some cpu)) (λ append text. Ok Done)
rule_of g instance past (OfCpu cpu per_cpu.TracePipe) = only_read []
rule_of g instance past (OfCpu cpu per_cpu.Stats) = only_read (cpu_stats_text g instance past cpu)
rule_of g instance past (OfEvent event per_event.Enable) = read_and_written (flag_text (is_enabled instance event past)) (λ append. switch_answer)
rule_of g instance past (OfEvent event per_event.Filter) =
    read_and_written (filter_text (filter_of instance event past)) (λ append text. named_filter_answer text (event_named event past))
rule_of g instance past (OfEvent event per_event.Trigger) =
    read_and_written (triggers_of_event instance past (event_named event past))
    (λ append text. named_trigger_answer instance past append text (event_named event past))
rule_of g instance past (OfEvent event per_event.Hist) = only_read (hists_of_event instance past (event_named event past))
rule_of g instance past (OfEvent event per_event.Format) = only_read (format_of_event (event_named event past))

-- what a file shows that is read whole
abbrev pub text_of : Config → Option (List ℕ) → List Request → File → List ℕ
text_of g instance past file = (rule_of g instance past file).shows

-- what a write to a file answers
abbrev pub write_answer : Config → Option (List ℕ) → List Request → Bool → List ℕ → File → Result Reply Refusal
write_answer g instance past append text file = (rule_of g instance past file).written append text

-- ---- what a read of each file answers

-- a file that is no pipe takes no limit
abbrev pub whole_text : Option ℕ → List ℕ → Result Reply Refusal
whole_text None text = Ok (Text text)
whole_text (Some limit) text = Err BadValue

-- what a read of a file of an instance answers: all files are read whole but the pipes, and the filter of all events can't be read
abbrev pub read_answer : Config → Option (List ℕ) → List Request → Option ℕ → File → Result Reply Refusal
read_answer g instance past limit (OfInstance top.TracePipe) = Ok (Text (shown_pipe g instance past limit))
read_answer g instance past limit (OfCpu cpu per_cpu.TracePipe) = Ok (Text (shown_cpu_pipe g instance past cpu limit))
read_answer g instance past limit (OfInstance top.EventsFilter) = Err NotReadable
read_answer g instance past limit file = whole_text limit (text_of g instance past file)

-- ---- instances made and removed

-- how many instances there may be beside the top one
abbrev pub most_instances : ℕ
most_instances = 7

-- an instance that is to be made: first its name, then whether it is there, then how many there are
unfoldable pub named_answer : List Request → List ℕ → Result Reply Refusal
named_answer past name =
    if not (is_name name) then Err BadValue
    else (if is_there (Some name) past then Err InstanceExists
    else (if nat_lt (length (instance_names past)) most_instances then Ok Done else Err (TooMany limit.Instances)))

abbrev pub make_answer : List Request → Option (List ℕ) → Result Reply Refusal
make_answer past None = Err NoSuchFile
make_answer past (Some name) = named_answer past name

abbrev pub remove_answer : List Request → Option (List ℕ) → Result Reply Refusal
remove_answer past None = Err NoSuchFile
remove_answer past (Some name) = if is_there (Some name) past then Ok Done else Err NoSuchInstance

-- ---- the answer

-- the CPU of a path that is not there
abbrev pub missing_cpu : Config → ℕ → Option Refusal
missing_cpu g cpu = if nat_lt cpu g.cpus then None else Some NoSuchCpu

-- the event of a path that is not there
abbrev pub missing_event : List Request → List ℕ → Option Refusal
missing_event past event = if is_some (event_named event past) then None else Some NoSuchEvent

-- the CPU or the event of a path that is not there
abbrev pub missing : Config → List Request → File → Option Refusal
missing g past SyntheticEvents = None
missing g past (OfInstance file) = None
missing g past (OfCpu cpu file) = missing_cpu g cpu
missing g past (OfEvent event file) = missing_event past event

-- a refusal, or else the answer: a reply, or what a look tells (`Waiting`)
abbrev pub unless_refused : {A : Type 0} → Option Refusal → Result A Refusal → Result A Refusal
unless_refused (Some refusal) answered = Err refusal
unless_refused None answered = answered

-- a file that is there is answered; a path may name none
abbrev pub file_answer : {A : Type 0} → Config → List Request → (File → Result A Refusal) → Option File → Result A Refusal
file_answer g past answered None = Err NoSuchFile
file_answer g past answered (Some file) = unless_refused (missing g past file) (answered file)

-- the instance comes before all else
abbrev pub instance_answer : {A : Type 0} → Option (List ℕ) → List Request → Result A Refusal → Result A Refusal
instance_answer instance past answered = if is_there instance past then answered else Err NoSuchInstance

-- the answer, were there no limit on the history
abbrev pub answer_with_room : Config → List Request → Request → Result Reply Refusal
answer_with_room g past (Emission name cpu pid pairs) = emission_answer g past name cpu pairs
answer_with_room g past (MakeInstance name) = make_answer past name
answer_with_room g past (RemoveInstance name) = remove_answer past name
answer_with_room g past (WriteFile instance file append text) = instance_answer instance past (file_answer g past (write_answer g instance past append text) file)
answer_with_room g past (ReadFile instance file limit) = instance_answer instance past (file_answer g past (read_answer g instance past limit) file)

-- what would be done is refused where as many requests were done as the limit says
abbrev pub unless_full : ℕ → ℕ → Result Reply Refusal → Result Reply Refusal
unless_full limit count (Err refusal) = Err refusal
unless_full limit count (Ok reply) = if nat_lt count limit then Ok reply else Err HistoryFull

-- the answer that the requests done so far give a request
unfoldable pub answer : Config → List Request → Request → Result Reply Refusal
answer g past request = unless_full g.history_limit (length past) (answer_with_room g past request)

-- ---- histories

-- the requests of entries, newest first
abbrev pub requests_of : List Entry → List Request
requests_of [] = []
requests_of (entry ∷ entries) = request_of entry.command ∷ requests_of entries

unfoldable pub past_of : List Entry → List Request
past_of entries = requests_of (reverse entries)

-- the answer that the entries done so far, oldest first, give a command
abbrev pub answer_to : Config → List Entry → Command → Result Reply Refusal
answer_to g entries command = answer g (past_of entries) (request_of command)

-- the numbers of an entry fit their types: its ticket 64 bits, its caller's number 32, and those of its command
abbrev pub IsEntry : Entry → Type 0
IsEntry entry = (entry.ticket < 2 ^ 64) × (entry.by < 2 ^ 32) × FitsItsTypes (request_of entry.command)

-- entries, newest first, are legal: their numbers fit their types, tickets rise, and no entry was refused after those before it
abbrev pub IsLegalNewestFirst : Config → List Entry → Type 0
IsLegalNewestFirst g [] = ⊤
IsLegalNewestFirst g (entry ∷ before) =
    IsEntry entry × All (λ earlier. earlier.ticket < entry.ticket) before × IsOk (answer g (requests_of before) (request_of entry.command))
    × IsLegalNewestFirst g before

-- a legal history
unfoldable pub IsLegal : Config → List Entry → Type 0
IsLegal g entries = IsLegalNewestFirst g (reverse entries)
