-- Two pasts that give every request the same answer: what they say of instances is the same, but for numbers that are greater in one of them.
use Rattle.std.proofs.Common.{◌≡◌, ℕ, ◌+◌, nat_lt, Bool, true, false, not, is_some, bytes_eq, List, [], ◌∷◌, ◌++◌, filter, map, Option, None, Some, option_map, Result, Ok, Err, refl, ap, ◌∙◌}
use Rattle.std.specs.List.{list_any}
use Rattle.std.proofs.lemmas.List.{length-map}
use Rattle.page_ring.specs.Events as ring
use Rattle.trace_buffer.specs.Families.{cpu_stats}
use Rattle.trace_filter.specs.Filters.{Parsed}
use Rattle.trace_format.specs.Definitions.{Definition}
use Rattle.trace_format.specs.Reading.{definition_of, cause_in}
use Rattle.trace_trigger.specs.HistSpecs.{SpecSeen}
use Rattle.trace_trigger.specs.TriggerTexts.{said_of}
use Rattle.trace_trigger.specs.declared.fault.TriggerFault.{TriggerFault}
use Rattle.trace_trigger.specs.declared.spec.Action.{Action}
use Rattle.trace_trigger.specs.declared.spec.Action.TheVariants.{Attach, Pause, Continue, Clear}
use Rattle.trace_trigger.specs.declared.trigger.TriggerText.{TriggerText}
use Rattle.trace_trigger.specs.declared.trigger.TriggerText.TheVariants.{Nothing, AttachSnapshot, RemoveSnapshot, Hist, RemoveHist}
use Rattle.hist_entries.specs.Hits.{Hit}
use Rattle.trace_hist.specs.Groups.{grouped}
use Rattle.record_text.specs.BufferText.{trace_text, pipe_text}
use Rattle.trace_text.specs.HistText.{hist_text}
use Rattle.record_text.specs.SnapshotText.{snapshot_text}
use Rattle.record_text.specs.StatsText.{stats_text}
use Rattle.trace_text.specs.TriggerText as texts
use Rattle.trace_command.specs.Paths.{File, SyntheticEvents, OfInstance, OfCpu, OfEvent}
use Rattle.trace_command.specs.Requests.{Request, Emission, MakeInstance, RemoveInstance, WriteFile, ReadFile}
use Rattle.trace_command.specs.declared.command.Config.{Config}
use Rattle.trace_command.specs.declared.file_name.CpuFile.TheVariants as per_cpu
use Rattle.trace_command.specs.declared.file_name.EventFile.TheVariants as per_event
use Rattle.trace_command.specs.declared.file_name.TopFile.TheVariants as top
use Rattle.trace_command.specs.declared.refusal.Refusal.{Refusal}
use Rattle.tracer_specification.specs.FileTexts.{cpu_stats_text, declarations_text, filter_text, flag_text, format_of_event, hists_of_event, in_order, option_text, shown_cpu_pipe, shown_hist, shown_pipe, shown_snapshot, shown_trace, shown_trigger, switches_text, triggers_of_event}
use Rattle.tracer_specification.specs.HistTriggers.{HistTrigger, fits_that, has_same, hist_triggers, hists_of, hits_of, is_of, is_paused, kept_by, left_by, named_by, names_table_of, says_same, those_of}
use Rattle.tracer_specification.specs.History.{answer_with_room, declaration_answer, emission_answer, file_answer, filter_of_all_answer, fitting_answer, hist_answer, instance_answer, missing, named_answer, named_filter_answer, named_trigger_answer, new_hist_answer, read_answer, read_declaration_answer, room_answer, said_answer, snapshot_answer, spare_answer, text_of, trigger_answer, trigger_count, whole_text, write_answer}
use Rattle.tracer_specification.specs.Rings.{pipe_read, cpu_pipe_read, rings, spare_rings}
use Rattle.tracer_specification.specs.Settings.{NumberedEvent, declared_events, event_named, event_named_in, filter_of, instance_names, is_enabled, is_there, is_tracing, now_of, overwrites}
use Rattle.tracer_specification.specs.Snapshots.{written_snapshot}
use Rattle.tracer_specification.specs.Triggers.{Trigger, times_left, snapshot_trigger_of}
use Rattle.tracer_specification.specs.Waiting.{waiting, waits_in}
use Rattle.history_laws.proofs.Renumbered.{any-later, filter-later, find-later, later_hist, later_trigger, map-later, up, up-less}

pub record AreAlike (n : ℕ) (more less : List Request) : Type 0 where
  pub events : declared_events more ≡ declared_events less
  pub instances : instance_names more ≡ instance_names less
  pub now : now_of more ≡ now_of less
  pub enabled : (instance : Option (List ℕ)) (event : List ℕ) → is_enabled instance event more ≡ is_enabled instance event less
  pub filters : (instance : Option (List ℕ)) (event : List ℕ) → filter_of instance event more ≡ filter_of instance event less
  pub overwriting : (instance : Option (List ℕ)) → overwrites instance more ≡ overwrites instance less
  pub tracing : (instance : Option (List ℕ)) → is_tracing instance more ≡ is_tracing instance less
  pub live : (g : Config) (instance : Option (List ℕ)) → rings g instance more ≡ rings g instance less
  pub spare : (g : Config) (instance : Option (List ℕ)) → spare_rings g instance more ≡ spare_rings g instance less
  pub trigger : (instance : Option (List ℕ)) (event : Definition)
      → snapshot_trigger_of instance event more ≡ option_map (later_trigger n) (snapshot_trigger_of instance event less)
  pub times : (event : Definition) (t : Trigger) → times_left event (later_trigger n t) more ≡ times_left event t less
  pub hists : (instance : Option (List ℕ)) → hist_triggers instance more ≡ map (later_hist n) (hist_triggers instance less)
  pub paused : (instance : Option (List ℕ)) (table : ℕ) → is_paused instance (up n table) more ≡ is_paused instance table less
  pub hits : (instance : Option (List ℕ)) (table : ℕ) → hits_of instance (up n table) more ≡ hits_of instance table less

-- ---- triggers, renumbered

pub those-later : (n : ℕ) (event : Definition) (hists : List HistTrigger) → those_of event (map (later_hist n) hists) ≡ map (later_hist n) (those_of event hists)
those-later n event hists = filter-later n (is_of event) (is_of event) (λ t. refl) hists

pub left-later : (n : ℕ) (event : Definition) (append : Bool) (hists : List HistTrigger)
    → left_by event append (map (later_hist n) hists) ≡ map (later_hist n) (left_by event append hists)
left-later n event true hists = refl
left-later n event false hists = filter-later n (λ t. not (is_of event t)) (λ t. not (is_of event t)) (λ t. refl) hists

kept-later : (n : ℕ) (append : Bool) (hists : List HistTrigger) → kept_by append (map (later_hist n) hists) ≡ map (later_hist n) (kept_by append hists)
kept-later n true hists = refl
kept-later n false hists = refl

pub same-later : (n : ℕ) (spec : SpecSeen) (hists : List HistTrigger) → has_same spec (map (later_hist n) hists) ≡ has_same spec hists
same-later n spec hists = any-later n (says_same spec) (says_same spec) (λ t. refl) hists

pub found-later : (n : ℕ) (spec : SpecSeen) (hists : List HistTrigger) → named_by spec (map (later_hist n) hists) ≡ option_map (later_hist n) (named_by spec hists)
found-later n spec hists = find-later n (names_table_of spec) (names_table_of spec) (λ t. refl) hists

fits-later : (n : ℕ) (spec : SpecSeen) (found : Option HistTrigger) → fits_that spec (option_map (later_hist n) found) ≡ fits_that spec found
fits-later n spec None = refl
fits-later n spec (Some t) = refl

-- ---- what a string for a trigger file answers

count-later : (n : ℕ) (attached : Option Trigger) (hists : List HistTrigger)
    → trigger_count (option_map (later_trigger n) attached) (map (later_hist n) hists) ≡ trigger_count attached hists
count-later n None hists = length-map hists (later_hist n)
count-later n (Some t) hists = ap (λ (k : ℕ). k + 1) (length-map hists (later_hist n))

room-later : (n : ℕ) (attached : Option Trigger) (hists : List HistTrigger)
    → room_answer (option_map (later_trigger n) attached) (map (later_hist n) hists) ≡ room_answer attached hists
room-later n attached hists = rw (count-later n attached hists) refl

new-later : (n : ℕ) (attached : Option Trigger) (hists : List HistTrigger) (fits : Bool) (action : Action)
    → new_hist_answer (option_map (later_trigger n) attached) (map (later_hist n) hists) fits action ≡ new_hist_answer attached hists fits action
new-later n attached hists fits Continue = refl
new-later n attached hists fits Clear = refl
new-later n attached hists fits Attach = ap (fitting_answer fits) (room-later n attached hists)
new-later n attached hists fits Pause = ap (fitting_answer fits) (room-later n attached hists)

hist-later : (n : ℕ) (attached : Option Trigger) (hists all : List HistTrigger) (spec : SpecSeen)
    → hist_answer (option_map (later_trigger n) attached) (map (later_hist n) hists) (map (later_hist n) all) spec ≡ hist_answer attached hists all spec
hist-later n attached hists all spec =
    rw (same-later n spec hists, found-later n spec all, fits-later n spec (named_by spec all), new-later n attached hists (fits_that spec (named_by spec all)) spec.action) refl

said-later : (n : ℕ) (append : Bool) (attached : Option Trigger) (hists all : List HistTrigger) (said : Result TriggerText TriggerFault)
    → said_answer append (option_map (later_trigger n) attached) (map (later_hist n) hists) (map (later_hist n) all) said
    ≡ said_answer append attached hists all said
said-later n append attached hists all (Err fault) = refl
said-later n append attached hists all (Ok Nothing) = refl
said-later n append None hists all (Ok (AttachSnapshot spec)) = room-later n None hists
said-later n append (Some t) hists all (Ok (AttachSnapshot spec)) = refl
said-later n append None hists all (Ok RemoveSnapshot) = refl
said-later n append (Some t) hists all (Ok RemoveSnapshot) = refl
said-later n append attached hists all (Ok (Hist spec)) = hist-later n attached hists all spec
said-later n append attached hists all (Ok (RemoveHist spec)) = rw (same-later n spec hists) refl

-- ---- two such pasts

module _ (n : ℕ) (more less : List Request) (alike : AreAlike n more less) where
  named : (name : List ℕ) → event_named name more ≡ event_named name less
  named name = ap (λ (es : List Definition). event_named_in es name) alike.events

  there : (instance : Option (List ℕ)) → is_there instance more ≡ is_there instance less
  there None = refl
  there (Some name) = ap (list_any (bytes_eq name)) alike.instances

  own-hists : (instance : Option (List ℕ)) (event : Definition) → hists_of instance event more ≡ map (later_hist n) (hists_of instance event less)
  own-hists instance event = ap (those_of event) (alike.hists instance) ∙ those-later n event (hist_triggers instance less)

  -- ---- what files show

  hist-shown : (instance : Option (List ℕ)) (t : HistTrigger) → shown_hist instance more (later_hist n t) ≡ shown_hist instance less t
  hist-shown instance t =
      ap (λ (b : Bool). let shown : texts.Trigger = texts.Hist (record {
        spec = t.spec;
        paused = b;
        table = grouped t.spec (hits_of instance (up n t.table) more);
        rules = t.spec.sort_sources;
      }) in shown) (alike.paused instance t.table)
      ∙ ap (λ (hits : List Hit). let shown : texts.Trigger = texts.Hist (record {
        spec = t.spec;
        paused = is_paused instance t.table less;
        table = grouped t.spec hits;
        rules = t.spec.sort_sources;
      }) in shown) (alike.hits instance t.table)

  hists-shown : (instance : Option (List ℕ)) (hists : List HistTrigger)
      → map (shown_hist instance more) (map (later_hist n) hists) ≡ map (shown_hist instance less) hists
  hists-shown instance hists = map-later n (shown_hist instance less) (shown_hist instance more) (hist-shown instance) hists

  order-shown : (instance : Option (List ℕ)) (event : Definition) (attached : Option Trigger) (hists : List HistTrigger)
      → in_order instance more event (option_map (later_trigger n) attached) (map (later_hist n) hists) ≡ in_order instance less event attached hists
  order-shown instance event None hists = hists-shown instance hists
  order-shown instance event (Some t) hists =
      let older : HistTrigger → Bool = λ h. nat_lt h.number t.number in
      let older_later : HistTrigger → Bool = λ h. nat_lt h.number (up n t.number) in
      let same : (h : HistTrigger) → older_later (later_hist n h) ≡ older h = λ h. up-less n h.number t.number in
      let first = filter-later n older older_later same hists in
      let last = filter-later n (λ h. not (older h)) (λ h. not (older_later h)) (λ h. ap not (same h)) hists in
      let shown = shown_hist instance more in
      ap (λ (ts : List HistTrigger). map shown ts ++ shown_trigger more event (later_trigger n t) ∷ map shown (filter (λ h. not (older_later h)) (map (later_hist n) hists))) first
      ∙ ap (λ (ts : List HistTrigger). map shown (map (later_hist n) (filter older hists)) ++ shown_trigger more event (later_trigger n t) ∷ map shown ts) last
      ∙ ap (λ (ts : List texts.Trigger). ts ++ shown_trigger more event (later_trigger n t) ∷ map shown (map (later_hist n) (filter (λ h. not (older h)) hists)))
      (hists-shown instance (filter older hists))
      ∙ ap (λ (ts : List texts.Trigger). map (shown_hist instance less) (filter older hists) ++ shown_trigger more event (later_trigger n t) ∷ ts)
      (hists-shown instance (filter (λ h. not (older h)) hists))
      ∙ ap (λ (times : Option ℕ). map (shown_hist instance less) (filter older hists)
      ++ texts.Snapshot times (option_map (λ (f : Parsed). f.text) t.spec.filter) ∷ map (shown_hist instance less) (filter (λ h. not (older h)) hists))
      (alike.times event t)

  triggers-shown : (instance : Option (List ℕ)) (found : Option NumberedEvent) → triggers_of_event instance more found ≡ triggers_of_event instance less found
  triggers-shown instance None = refl
  triggers-shown instance (Some k) =
      ap texts.trigger_text
      (ap (λ (t : Option Trigger). in_order instance more k.event t (hists_of instance k.event more)) (alike.trigger instance k.event)
      ∙ ap (in_order instance more k.event (option_map (later_trigger n) (snapshot_trigger_of instance k.event less))) (own-hists instance k.event)
      ∙ order-shown instance k.event (snapshot_trigger_of instance k.event less) (hists_of instance k.event less))

  histograms-shown : (instance : Option (List ℕ)) (found : Option NumberedEvent) → hists_of_event instance more found ≡ hists_of_event instance less found
  histograms-shown instance None = refl
  histograms-shown instance (Some k) =
      ap (λ (ts : List HistTrigger). hist_text (map (shown_hist instance more) ts)) (own-hists instance k.event)
      ∙ ap hist_text (hists-shown instance (hists_of instance k.event less))

  trace-shown : (g : Config) (instance : Option (List ℕ)) (cpu : Option ℕ) → shown_trace g instance more cpu ≡ shown_trace g instance less cpu
  unfolding shown_trace
  trace-shown g instance cpu =
      ap (λ (es : List Definition). trace_text es g.pages g.page_bytes (rings g instance more) cpu) alike.events
      ∙ ap (λ (f : List (List ring.Event)). trace_text (declared_events less) g.pages g.page_bytes f cpu) (alike.live g instance)

  snapshot-shown : (g : Config) (instance : Option (List ℕ)) → shown_snapshot g instance more ≡ shown_snapshot g instance less
  unfolding shown_snapshot
  snapshot-shown g instance =
      ap (λ (es : List Definition). snapshot_text es g.pages g.page_bytes (spare_rings g instance more)) alike.events
      ∙ ap (snapshot_text (declared_events less) g.pages g.page_bytes) (alike.spare g instance)

  pipe-shown : (g : Config) (instance : Option (List ℕ)) (limit : Option ℕ) → shown_pipe g instance more limit ≡ shown_pipe g instance less limit
  unfolding shown_pipe
  pipe-shown g instance limit =
      ap (λ (es : List Definition). pipe_text es (pipe_read g limit (rings g instance more)).taken) alike.events
      ∙ ap (λ (f : List (List ring.Event)). pipe_text (declared_events less) (pipe_read g limit f).taken) (alike.live g instance)

  cpu_pipe-shown : (g : Config) (instance : Option (List ℕ)) (cpu : ℕ) (limit : Option ℕ)
      → shown_cpu_pipe g instance more cpu limit ≡ shown_cpu_pipe g instance less cpu limit
  unfolding shown_cpu_pipe
  cpu_pipe-shown g instance cpu limit =
      ap (λ (es : List Definition). pipe_text es (cpu_pipe_read g cpu limit (rings g instance more)).taken) alike.events
      ∙ ap (λ (f : List (List ring.Event)). pipe_text (declared_events less) (cpu_pipe_read g cpu limit f).taken) (alike.live g instance)

  stats-shown : (g : Config) (instance : Option (List ℕ)) (cpu : ℕ) → cpu_stats_text g instance more cpu ≡ cpu_stats_text g instance less cpu
  unfolding cpu_stats_text
  stats-shown g instance cpu =
      ap (λ (f : List (List ring.Event)). stats_text (cpu_stats g.pages g.page_bytes f cpu) (now_of more)) (alike.live g instance)
      ∙ ap (stats_text (cpu_stats g.pages g.page_bytes (rings g instance less) cpu)) alike.now

  declarations-shown : declarations_text more ≡ declarations_text less
  unfolding declarations_text
  declarations-shown = rw alike.events refl

  flags : (instance : Option (List ℕ)) (events : List Definition)
      → map (λ (event : Definition). is_enabled instance event.name more) events ≡ map (λ (event : Definition). is_enabled instance event.name less) events
  flags instance [] = refl
  flags instance (event ∷ events) = rw (alike.enabled instance event.name, flags instance events) refl

  text-same : (g : Config) (instance : Option (List ℕ)) (file : File) → text_of g instance more file ≡ text_of g instance less file
  text-same g instance SyntheticEvents = declarations-shown
  text-same g instance (OfInstance top.Trace) = trace-shown g instance None
  text-same g instance (OfInstance top.TracePipe) = refl
  text-same g instance (OfInstance top.Overwrite) = ap flag_text (alike.overwriting instance)
  text-same g instance (OfInstance top.TraceOptions) = ap option_text (alike.overwriting instance)
  text-same g instance (OfInstance top.TracingOn) = ap flag_text (alike.tracing instance)
  text-same g instance (OfInstance top.Snapshot) = snapshot-shown g instance
  text-same g instance (OfInstance top.EventsEnable) =
      ap (λ (es : List Definition). switches_text (map (λ (event : Definition). is_enabled instance event.name more) es)) alike.events
      ∙ ap switches_text (flags instance (declared_events less))
  text-same g instance (OfInstance top.EventsFilter) = refl
  text-same g instance (OfCpu cpu per_cpu.Trace) = trace-shown g instance (Some cpu)
  text-same g instance (OfCpu cpu per_cpu.TracePipe) = refl
  text-same g instance (OfCpu cpu per_cpu.Stats) = stats-shown g instance cpu
  text-same g instance (OfEvent event per_event.Enable) = ap flag_text (alike.enabled instance event)
  text-same g instance (OfEvent event per_event.Filter) = ap filter_text (alike.filters instance event)
  text-same g instance (OfEvent event per_event.Trigger) =
      ap (triggers_of_event instance more) (named event) ∙ triggers-shown instance (event_named event less)
  text-same g instance (OfEvent event per_event.Hist) =
      ap (hists_of_event instance more) (named event) ∙ histograms-shown instance (event_named event less)
  text-same g instance (OfEvent event per_event.Format) = ap format_of_event (named event)

  -- ---- what requests answer

  read-same : (g : Config) (instance : Option (List ℕ)) (limit : Option ℕ) (file : File)
      → read_answer g instance more limit file ≡ read_answer g instance less limit file
  read-same g instance limit (OfInstance top.TracePipe) = rw (pipe-shown g instance limit) refl
  read-same g instance limit (OfCpu cpu per_cpu.TracePipe) = rw (cpu_pipe-shown g instance cpu limit) refl
  read-same g instance limit (OfInstance top.EventsFilter) = refl
  read-same g instance limit file = ap (whole_text limit) (text-same g instance file)

  declared-same : (g : Config) (append : Bool) (text : List ℕ) → declaration_answer g more append text ≡ declaration_answer g less append text
  unfolding declaration_answer
  declared-same g append text = by (definition_of text)
    where
      by : (read : Result Definition ℕ) → read_declaration_answer g more append (cause_in text) read ≡ read_declaration_answer g less append (cause_in text) read
      by (Ok definition) = rw alike.events refl
      by (Err at) = refl

  has-trigger : (instance : Option (List ℕ)) (events : List Definition)
      → list_any (λ event. is_some (snapshot_trigger_of instance event more)) events ≡ list_any (λ event. is_some (snapshot_trigger_of instance event less)) events
  has-trigger instance [] = refl
  has-trigger instance (event ∷ events) = rw (some-later (snapshot_trigger_of instance event less) (alike.trigger instance event), has-trigger instance events) refl
    where
      some-later : (t : Option Trigger) → snapshot_trigger_of instance event more ≡ option_map (later_trigger n) t → is_some (snapshot_trigger_of instance event more) ≡ is_some t
      some-later None is = ap is_some is
      some-later (Some t) is = ap is_some is

  spare-same : (instance : Option (List ℕ)) (text : List ℕ) → snapshot_answer instance more text ≡ snapshot_answer instance less text
  unfolding snapshot_answer
  spare-same instance text =
      ap (λ (es : List Definition). spare_answer (list_any (λ event. is_some (snapshot_trigger_of instance event more)) es) (written_snapshot text)) alike.events
      ∙ ap (λ (b : Bool). spare_answer b (written_snapshot text)) (has-trigger instance (declared_events less))

  trigger-same : (instance : Option (List ℕ)) (append : Bool) (text : List ℕ) (event : Definition)
      → trigger_answer instance more append text event ≡ trigger_answer instance less append text event
  unfolding trigger_answer
  trigger-same instance append text event =
      let said = said_of event text in
      let older = hist_triggers instance less in
      let own = hists_of instance event less in
      let t = option_map (later_trigger n) (snapshot_trigger_of instance event less) in
      ap (λ (o : Option Trigger). said_answer append o (kept_by append (hists_of instance event more)) (left_by event append (hist_triggers instance more)) said)
      (alike.trigger instance event)
      ∙ ap (λ (ts : List HistTrigger). said_answer append t (kept_by append ts) (left_by event append (hist_triggers instance more)) said) (own-hists instance event)
      ∙ ap (λ (ts : List HistTrigger). said_answer append t ts (left_by event append (hist_triggers instance more)) said) (kept-later n append own)
      ∙ ap (λ (ts : List HistTrigger). said_answer append t (map (later_hist n) (kept_by append own)) (left_by event append ts) said) (alike.hists instance)
      ∙ ap (λ (ts : List HistTrigger). said_answer append t (map (later_hist n) (kept_by append own)) ts said) (left-later n event append older)
      ∙ said-later n append (snapshot_trigger_of instance event less) (kept_by append own) (left_by event append older) said

  named-trigger-same : (instance : Option (List ℕ)) (append : Bool) (text : List ℕ) (found : Option NumberedEvent)
      → named_trigger_answer instance more append text found ≡ named_trigger_answer instance less append text found
  named-trigger-same instance append text None = refl
  named-trigger-same instance append text (Some k) = trigger-same instance append text k.event

  write-same : (g : Config) (instance : Option (List ℕ)) (append : Bool) (text : List ℕ) (file : File)
      → write_answer g instance more append text file ≡ write_answer g instance less append text file
  write-same g instance append text SyntheticEvents = declared-same g append text
  write-same g instance append text (OfInstance top.Snapshot) = spare-same instance text
  write-same g instance append text (OfInstance top.EventsFilter) = ap (filter_of_all_answer text) alike.events
  write-same g instance append text (OfInstance top.Trace) = refl
  write-same g instance append text (OfInstance top.TracePipe) = refl
  write-same g instance append text (OfInstance top.Overwrite) = refl
  write-same g instance append text (OfInstance top.TraceOptions) = refl
  write-same g instance append text (OfInstance top.TracingOn) = refl
  write-same g instance append text (OfInstance top.EventsEnable) = refl
  write-same g instance append text (OfCpu cpu per_cpu.Trace) = refl
  write-same g instance append text (OfCpu cpu per_cpu.TracePipe) = refl
  write-same g instance append text (OfCpu cpu per_cpu.Stats) = refl
  write-same g instance append text (OfEvent event per_event.Enable) = refl
  write-same g instance append text (OfEvent event per_event.Filter) = ap (named_filter_answer text) (named event)
  write-same g instance append text (OfEvent event per_event.Trigger) =
      ap (named_trigger_answer instance more append text) (named event) ∙ named-trigger-same instance append text (event_named event less)
  write-same g instance append text (OfEvent event per_event.Hist) = refl
  write-same g instance append text (OfEvent event per_event.Format) = refl

  missing-same : (g : Config) (file : File) → missing g more file ≡ missing g less file
  missing-same g SyntheticEvents = refl
  missing-same g (OfInstance file) = refl
  missing-same g (OfCpu cpu file) = refl
  missing-same g (OfEvent event file) = rw (named event) refl

  file-same : {A : Type 0} (g : Config) (answered other : File → Result A Refusal) → ((file : File) → answered file ≡ other file) → (file : Option File)
      → file_answer g more answered file ≡ file_answer g less other file
  file-same g answered other same None = refl
  file-same g answered other same (Some file) = rw (missing-same g file, same file) refl

  instance-same : {A : Type 0} (g : Config) (instance : Option (List ℕ)) (answered other : Result A Refusal) → answered ≡ other
      → instance_answer instance more answered ≡ instance_answer instance less other
  instance-same g instance answered other same = rw (there instance, same) refl

  named-answer-same : (name : List ℕ) → named_answer more name ≡ named_answer less name
  unfolding named_answer
  named-answer-same name = rw (there (Some name), alike.instances) refl

  pub answer-same : (g : Config) (next : Request) → answer_with_room g more next ≡ answer_with_room g less next
  unfolding emission_answer
  answer-same g (Emission name cpu pid pairs) = rw (named name) refl
  answer-same g (MakeInstance None) = refl
  answer-same g (MakeInstance (Some name)) = named-answer-same name
  answer-same g (RemoveInstance None) = refl
  answer-same g (RemoveInstance (Some name)) = rw (there (Some name)) refl
  answer-same g (WriteFile instance file append text) =
      instance-same g instance (file_answer g more (write_answer g instance more append text) file) (file_answer g less (write_answer g instance less append text) file)
      (file-same g (write_answer g instance more append text) (write_answer g instance less append text) (write-same g instance append text) file)
  answer-same g (ReadFile instance file limit) =
      instance-same g instance (file_answer g more (read_answer g instance more limit) file) (file_answer g less (read_answer g instance less limit) file)
      (file-same g (read_answer g instance more limit) (read_answer g instance less limit) (read-same g instance limit) file)

  waits-same : (g : Config) (instance : Option (List ℕ)) (file : File) → waits_in g instance more file ≡ waits_in g instance less file
  waits-same g instance (OfInstance top.TracePipe) = rw (alike.live g instance) refl
  waits-same g instance (OfCpu cpu per_cpu.TracePipe) = rw (alike.live g instance) refl
  waits-same g instance (OfInstance top.EventsFilter) = refl
  waits-same g instance file = refl

  pub waiting-same : (g : Config) (instance : Option (List ℕ)) (file : Option File) → waiting g more instance file ≡ waiting g less instance file
  unfolding waiting
  waiting-same g instance file =
      instance-same g instance (file_answer g more (waits_in g instance more) file) (file_answer g less (waits_in g instance less) file)
      (file-same g (waits_in g instance more) (waits_in g instance less) (waits-same g instance) file)
