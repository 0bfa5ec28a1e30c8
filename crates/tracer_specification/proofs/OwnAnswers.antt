-- Every answer of a history is one of its own: a reply, or a refusal other than Memory, which says that memory was refused, and Worn, which says
-- that all tickets are drawn.
use Rattle.std.proofs.Common.{◌≡◌, ℕ, Bool, true, false, if◌then◌else◌, List, [], ◌∷◌, Option, None, Some, Result, Ok, Err, refl, ap}
use Rattle.std.specs.List.{list_any}
use Rattle.std.specs.Prelude.{nat_lt, not, ◌&&◌, ◌||◌, is_some, length}
use Rattle.trace_filter.specs.declared.fault.FilterFault.{FilterFault}
use Rattle.trace_filter.specs.declared.fault.FilterFault.TheVariants as filters
use Rattle.trace_filter.specs.Filters.{Parsed, answer_of}
use Rattle.std.specs.Result.{result_map_both}
use Rattle.trace_format.specs.declared.bad_row.BadRow.{BadRow}
use Rattle.trace_format.specs.Catalogs.{id_for}
use Rattle.trace_format.specs.Cells.{Cells}
use Rattle.trace_format.specs.Definitions.{Definition}
use Rattle.trace_format.specs.Reading.{definition_of, cause_in}
use Rattle.trace_format.specs.Rows.{row_of}
use Rattle.trace_format.specs.declared.fault.CatalogFault.{CatalogFault}
use Rattle.trace_format.specs.declared.fault.DeclarationCause.{DeclarationCause}
use Rattle.trace_format.specs.declared.fault.CatalogFault.TheVariants as catalogs
use Rattle.trace_format.specs.declared.pair.Pair.{Pair}
use Rattle.trace_lex.specs.Names.{is_name}
use Rattle.trace_trigger.specs.declared.spec.Action.{Action}
use Rattle.trace_trigger.specs.declared.spec.Action.TheVariants as actions
use Rattle.trace_trigger.specs.TriggerTexts.{said_of}
use Rattle.trace_trigger.specs.declared.fault.TriggerFault.{TriggerFault}
use Rattle.trace_trigger.specs.declared.fault.TriggerFault.TheVariants as faults
use Rattle.trace_trigger.specs.declared.trigger.TriggerText.{TriggerText}
use Rattle.trace_trigger.specs.declared.trigger.TriggerText.TheVariants as texts
use Rattle.trace_command.specs.Paths.{File, SyntheticEvents, OfInstance, OfCpu, OfEvent}
use Rattle.trace_command.specs.Refusals.{refusal_of_catalog, refusal_of_filter, refusal_of_trigger}
use Rattle.trace_command.specs.Requests.{Request, Emission, MakeInstance, RemoveInstance, WriteFile, ReadFile, request_of}
use Rattle.trace_command.specs.Commands.{Command}
use Rattle.trace_command.specs.declared.command.Config.{Config}
use Rattle.trace_command.specs.declared.command.Entry.{Entry}
use Rattle.trace_command.specs.declared.command.Reply.{Reply}
use Rattle.trace_command.specs.declared.command.Reply.TheVariants as replies
use Rattle.trace_command.specs.declared.file_name.CpuFile.TheVariants as per_cpu
use Rattle.trace_command.specs.declared.file_name.EventFile.TheVariants as per_event
use Rattle.trace_command.specs.declared.file_name.TopFile.TheVariants as top
use Rattle.trace_command.specs.declared.refusal.Refusal.{Refusal}
use Rattle.trace_command.specs.declared.refusal.Refusal.TheVariants as refusals
use Rattle.tracer_specification.specs.History.{event_answer, emission_answer, added_answer, read_declaration_answer, declaration_answer, switch_answer, taken_answer, filter_answer, named_filter_answer, filter_of_all_answer, option_answer, tracing_answer, spare_answer, snapshot_answer, trigger_count, room_answer, asked_answer, fitting_answer, new_hist_answer, said_answer, trigger_answer, named_trigger_answer, text_of, write_answer, whole_text, read_answer, most_instances, named_answer, make_answer, remove_answer, missing_cpu, missing_event, missing, unless_refused, file_answer, instance_answer, answer_with_room, unless_full, answer, past_of, answer_to}
use Rattle.tracer_specification.specs.Settings.{NumberedEvent, event_named, declared_events, written_flag, written_option, written_tracing, instance_names, is_there, clears_filter, can_take}
use Rattle.tracer_specification.specs.Snapshots.{SnapshotWrite, Frees, Takes, Empties, written_snapshot}
use Rattle.tracer_specification.specs.Triggers.{Trigger, snapshot_trigger_of, has_snapshot_trigger}
use Rattle.tracer_specification.specs.HistTriggers.{HistTrigger, fits_that, has_same, hist_triggers, hists_of, kept_by, left_by, named_by}
use Rattle.tracer_specification.proofs.TextFaults.{adding_takes_none, filter_takes_none, trigger_text_takes_none}

-- neither Memory nor Worn
abbrev pub IsOwn : Result Reply Refusal → Type 0
IsOwn (Err refusals.Memory) = ⊥
IsOwn (Err refusals.Worn) = ⊥
IsOwn answered = Unit {0}

pub either : (b : Bool) (x y : Result Reply Refusal) → IsOwn x → IsOwn y → IsOwn (if b then x else y)
either true x y p q = p
either false x y p q = q

-- ---- writes

cataloged : (fault : CatalogFault) → (fault ≡ catalogs.Memory → ⊥) → IsOwn (Err (refusal_of_catalog fault))
cataloged catalogs.EventExists some = tt
cataloged catalogs.TooManyFields some = tt
cataloged catalogs.TooManyEvents some = tt
cataloged catalogs.TooBig some = tt
cataloged catalogs.Memory some = some refl

filtered : (fault : FilterFault) → (fault ≡ filters.Memory → ⊥) → IsOwn (Err (refusal_of_filter fault))
filtered filters.TooLong some = tt
filtered filters.TooDeep some = tt
filtered (filters.FilterSyntax at cause) some = tt
filtered (filters.NoSuchField at) some = tt
filtered (filters.WrongOperator at) some = tt
filtered filters.Memory some = some refl

triggered : (fault : TriggerFault) → (fault ≡ faults.Memory → ⊥) → IsOwn (Err (refusal_of_trigger fault))
triggered (faults.BadText cause) some = tt
triggered faults.FilterTooLong some = tt
triggered faults.FilterTooDeep some = tt
triggered faults.TooManyKeys some = tt
triggered faults.TooManyValues some = tt
triggered faults.TooManySortKeys some = tt
triggered (faults.FilterSyntax at cause) some = tt
triggered (faults.NoSuchField at) some = tt
triggered (faults.WrongOperator at cause) some = tt
triggered (faults.HistSyntax at cause) some = tt
triggered faults.BadSize some = tt
triggered faults.Memory some = some refl

flagged : (b : Bool) → IsOwn (if b then Ok (replies.Done) else Err refusals.BadValue)
flagged b = either b _ _ tt tt

added : (r : Result ℕ CatalogFault) → (r ≡ Err catalogs.Memory → ⊥) → IsOwn (added_answer r)
added (Ok id) none = tt
added (Err fault) none = cataloged fault (λ e. none (ap (λ (f : CatalogFault). Err f) e))

declared : (g : Config) (past : List Request) (append : Bool) (cause : DeclarationCause) (r : Result Definition ℕ) → IsOwn (read_declaration_answer g past append cause r)
declared g past append cause (Ok definition) = either (not append && nat_lt 0 (length (declared_events past))) _ _ tt
    (added (id_for (declared_events past) definition g.page_bytes) (adding_takes_none (declared_events past) definition g.page_bytes))
declared g past append cause (Err at) = tt

declaration : (g : Config) (past : List Request) (append : Bool) (text : List ℕ) → IsOwn (declaration_answer g past append text)
unfolding declaration_answer
declaration g past append text = declared g past append (cause_in text) (definition_of text)

taken : (r : Result Parsed FilterFault) → (r ≡ Err filters.Memory → ⊥) → IsOwn (taken_answer r)
taken (Ok filter) none = tt
taken (Err fault) none = filtered fault (λ e. none (ap (λ (f : FilterFault). Err f) e))

one_filter : (text : List ℕ) (event : Definition) → IsOwn (filter_answer text event)
unfolding filter_answer
one_filter text event = either (clears_filter text) _ _ tt (taken (answer_of event text) (filter_takes_none event text))

named_filter : (text : List ℕ) (k : Option NumberedEvent) → IsOwn (named_filter_answer text k)
named_filter text None = tt
named_filter text (Some k) = one_filter text k.event

filter_of_all : (text : List ℕ) (events : List Definition) → IsOwn (filter_of_all_answer text events)
unfolding filter_of_all_answer
filter_of_all text [] = tt
filter_of_all text (event ∷ events) = either (list_any (can_take text) (event ∷ events)) _ _ tt (one_filter text event)

spare : (in_use : Bool) (w : Option SnapshotWrite) → IsOwn (spare_answer in_use w)
spare in_use None = tt
spare in_use (Some Frees) = either in_use _ _ tt tt
spare in_use (Some Takes) = tt
spare in_use (Some Empties) = tt

room : (attached : Option Trigger) (hists : List HistTrigger) → IsOwn (room_answer attached hists)
room attached hists = either (nat_lt (trigger_count attached hists) 4) _ _ tt tt

asked : (action : Action) → IsOwn (asked_answer action)
asked actions.Attach = tt
asked actions.Pause = tt
asked actions.Continue = tt
asked actions.Clear = tt

fitting : (fits : Bool) (r : Result Reply Refusal) → IsOwn r → IsOwn (fitting_answer fits r)
fitting true (Ok reply) own = own
fitting false (Ok reply) own = tt
fitting fits (Err refusal) own = own

new_hist : (attached : Option Trigger) (hists : List HistTrigger) (fits : Bool) (action : Action) → IsOwn (new_hist_answer attached hists fits action)
new_hist attached hists fits actions.Attach = fitting fits (room_answer attached hists) (room attached hists)
new_hist attached hists fits actions.Pause = fitting fits (room_answer attached hists) (room attached hists)
new_hist attached hists fits actions.Continue = tt
new_hist attached hists fits actions.Clear = tt

said : (append : Bool) (attached : Option Trigger) (hists all : List HistTrigger) (r : Result TriggerText TriggerFault) → (r ≡ Err faults.Memory → ⊥)
    → IsOwn (said_answer append attached hists all r)
said append attached hists all (Err fault) none = triggered fault (λ e. none (ap (λ (f : TriggerFault). Err f) e))
said append attached hists all (Ok texts.Nothing) none = tt
said append None hists all (Ok (texts.AttachSnapshot spec)) none = room None hists
said append (Some t) hists all (Ok (texts.AttachSnapshot spec)) none = tt
said append None hists all (Ok texts.RemoveSnapshot) none = tt
said append (Some t) hists all (Ok texts.RemoveSnapshot) none = tt
said append attached hists all (Ok (texts.Hist spec)) none =
    either (has_same spec hists) _ _ (asked spec.action) (new_hist attached hists (fits_that spec (named_by spec all)) spec.action)
said append attached hists all (Ok (texts.RemoveHist spec)) none = either (not append || has_same spec hists) _ _ tt tt

named_trigger : (instance : Option (List ℕ)) (past : List Request) (append : Bool) (text : List ℕ) (k : Option NumberedEvent)
    → IsOwn (named_trigger_answer instance past append text k)
unfolding trigger_answer
named_trigger instance past append text None = tt
named_trigger instance past append text (Some k) =
    said append (snapshot_trigger_of instance k.event past) (kept_by append (hists_of instance k.event past))
    (left_by k.event append (hist_triggers instance past)) (said_of k.event text)
    (trigger_text_takes_none k.event text)

written : (g : Config) (instance : Option (List ℕ)) (past : List Request) (append : Bool) (text : List ℕ) (file : File)
    → IsOwn (write_answer g instance past append text file)
unfolding switch_answer option_answer tracing_answer snapshot_answer
written g instance past append text SyntheticEvents = declaration g past append text
written g instance past append text (OfInstance top.Overwrite) = flagged (is_some (written_flag text))
written g instance past append text (OfInstance top.TraceOptions) = flagged (is_some (written_option text))
written g instance past append text (OfInstance top.TracingOn) = flagged (is_some (written_tracing text))
written g instance past append text (OfInstance top.Snapshot) = spare (has_snapshot_trigger instance past) (written_snapshot text)
written g instance past append text (OfInstance top.EventsEnable) = flagged (is_some (written_flag text))
written g instance past append text (OfInstance top.EventsFilter) = filter_of_all text (declared_events past)
written g instance past append text (OfCpu cpu per_cpu.Trace) = tt
written g instance past append text (OfEvent event per_event.Enable) = flagged (is_some (written_flag text))
written g instance past append text (OfEvent event per_event.Filter) = named_filter text (event_named event past)
written g instance past append text (OfEvent event per_event.Trigger) = named_trigger instance past append text (event_named event past)
written g instance past append text _ = tt

-- ---- reads

whole : (limit : Option ℕ) (text : List ℕ) → IsOwn (whole_text limit text)
whole None text = tt
whole (Some limit) text = tt

shown : (g : Config) (instance : Option (List ℕ)) (past : List Request) (limit : Option ℕ) (file : File)
    → IsOwn (read_answer g instance past limit file)
shown g instance past limit (OfInstance top.TracePipe) = tt
shown g instance past limit (OfCpu cpu per_cpu.TracePipe) = tt
shown g instance past limit (OfInstance top.EventsFilter) = tt
shown g instance past limit file = whole limit (text_of g instance past file)

-- ---- all requests

rows : (r : Result Cells BadRow) → IsOwn (result_map_both (λ (row : Cells). replies.Done) refusals.BadRow r)
rows (Ok row) = tt
rows (Err bad) = tt

events : (k : Option NumberedEvent) (pairs : List Pair) → IsOwn (event_answer k pairs)
events None pairs = tt
events (Some k) pairs = rows (row_of k.event pairs)

made : (past : List Request) (name : Option (List ℕ)) → IsOwn (make_answer past name)
unfolding named_answer
made past None = tt
made past (Some name) =
    either (not (is_name name)) _ _ tt
    (either (is_there (Some name) past) _ _ tt (either (nat_lt (length (instance_names past)) most_instances) _ _ tt tt))

removed : (past : List Request) (name : Option (List ℕ)) → IsOwn (remove_answer past name)
removed past None = tt
removed past (Some name) = either (is_there (Some name) past) _ _ tt tt

missing_one : (b : Bool) (refusal : Refusal) (answered : Result Reply Refusal) → (Refusal → IsOwn (Err refusal)) → IsOwn answered
    → IsOwn (unless_refused (if b then None else Some refusal) answered)
missing_one true refusal answered n a = a
missing_one false refusal answered n a = n refusal

cpu_there : (g : Config) (cpu : ℕ) (answered : Result Reply Refusal) → IsOwn answered → IsOwn (unless_refused (missing_cpu g cpu) answered)
cpu_there g cpu answered a = missing_one (nat_lt cpu g.cpus) refusals.NoSuchCpu answered (λ r. tt) a

event_there : (past : List Request) (event : List ℕ) (answered : Result Reply Refusal) → IsOwn answered
    → IsOwn (unless_refused (missing_event past event) answered)
event_there past event answered a = missing_one (is_some (event_named event past)) refusals.NoSuchEvent answered (λ r. tt) a

file_there : (g : Config) (past : List Request) (file : File) (answered : Result Reply Refusal) → IsOwn answered
    → IsOwn (unless_refused (missing g past file) answered)
file_there g past SyntheticEvents answered a = a
file_there g past (OfInstance file) answered a = a
file_there g past (OfCpu cpu file) answered a = cpu_there g cpu answered a
file_there g past (OfEvent event file) answered a = event_there past event answered a

on_file : (g : Config) (past : List Request) (answered : File → Result Reply Refusal) (file : Option File)
    → ((f : File) → IsOwn (answered f)) → IsOwn (file_answer g past answered file)
on_file g past answered None each = tt
on_file g past answered (Some file) each = file_there g past file (answered file) (each file)

in_instance : (instance : Option (List ℕ)) (past : List Request) (answered : Result Reply Refusal) → IsOwn answered
    → IsOwn (instance_answer instance past answered)
in_instance instance past answered a = either (is_there instance past) _ _ a tt

pub with_room : (g : Config) (past : List Request) (request : Request) → IsOwn (answer_with_room g past request)
unfolding emission_answer
with_room g past (Emission name cpu pid pairs) = either (nat_lt cpu g.cpus) _ _ (events (event_named name past) pairs) tt
with_room g past (MakeInstance name) = made past name
with_room g past (RemoveInstance name) = removed past name
with_room g past (WriteFile instance file append text) =
    in_instance instance past _ (on_file g past (write_answer g instance past append text) file (written g instance past append text))
with_room g past (ReadFile instance file limit) =
    in_instance instance past _ (on_file g past (read_answer g instance past limit) file (shown g instance past limit))

pub unless_full_is : (limit count : ℕ) (r : Result Reply Refusal) → IsOwn r → IsOwn (unless_full limit count r)
unless_full_is limit count (Err refusal) a = a
unless_full_is limit count (Ok reply) a = either (nat_lt count limit) _ _ a tt

pub answers-are_own : (g : Config) (entries : List Entry) (command : Command) → IsOwn (answer_to g entries command)
unfolding answer
answers-are_own g entries command =
    let past = past_of entries in
    unless_full_is g.history_limit (length past) (answer_with_room g past (request_of command)) (with_room g past (request_of command))
