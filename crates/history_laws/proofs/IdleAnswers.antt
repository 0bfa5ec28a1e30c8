-- What is answered where the clock alone is later: all that was answered before, but the clock.
use Rattle.std.proofs.Common.{◌≡◌, ℕ, ◌+◌, ◌-◌, ◌==◌, nat_lt, Bool, true, false, not, ◌||◌, if◌then◌else◌, is_some, bytes_eq, List, [], ◌∷◌, ◌++◌, filter, map, Option, None, Some, option_map, Result, Ok, Err, refl, sym, ap, ◌∙◌}
use Rattle.std.specs.List.{list_any}
use Rattle.std.proofs.lemmas.Bool.{false≢true, or_right}
use Rattle.std.proofs.lemmas.Slice.Eq.{bytes_eq-Decides}
use Rattle.page_ring.specs.Events as ring
use Rattle.record_text.specs.BufferText.{trace_text, pipe_text}
use Rattle.record_text.specs.SnapshotText.{snapshot_text}
use Rattle.record_text.specs.StatsText.{stats_text}
use Rattle.trace_buffer.specs.Families.{cpu_stats}
use Rattle.trace_filter.specs.Filters.{Parsed}
use Rattle.trace_format.specs.Definitions.{Definition}
use Rattle.trace_format.specs.Reading.{definition_of, cause_in}
use Rattle.trace_hist.specs.Groups.{Table}
use Rattle.trace_text.specs.HistText.{hist_text}
use Rattle.trace_text.specs.TriggerText as texts
use Rattle.trace_trigger.specs.TriggerTexts.{said_of}
use Rattle.trace_command.specs.Paths.{File, SyntheticEvents, OfInstance, OfCpu, OfEvent}
use Rattle.trace_command.specs.Requests.{Request, Emission, MakeInstance, RemoveInstance, WriteFile, ReadFile}
use Rattle.trace_command.specs.declared.command.Config.{Config}
use Rattle.trace_command.specs.declared.file_name.CpuFile.TheVariants as per_cpu
use Rattle.trace_command.specs.declared.file_name.EventFile.TheVariants as per_event
use Rattle.trace_command.specs.declared.file_name.TopFile.TheVariants as top
use Rattle.trace_command.specs.declared.refusal.Refusal.{Refusal}
use Rattle.trace_command.specs.declared.refusal.Refusal.TheVariants.{NoSuchInstance}
use Rattle.tracer_specification.specs.FileTexts.{cpu_stats_text, declarations_text, filter_text, flag_text, format_of_event, hists_of_event, in_order, option_text, shown_cpu_pipe, shown_hist, shown_pipe, shown_snapshot, shown_trace, shown_trigger, switches_text, triggers_of_event}
use Rattle.tracer_specification.specs.HistTriggers.{HistTrigger, hist_triggers, hists_of, is_paused, kept_by, left_by, table_of, those_of}
use Rattle.tracer_specification.specs.History.{answer_with_room, declaration_answer, emission_answer, filter_of_all_answer, instance_answer, missing, named_answer, named_filter_answer, named_trigger_answer, read_answer, read_declaration_answer, said_answer, snapshot_answer, spare_answer, text_of, trigger_answer, unless_refused, whole_text, write_answer}
use Rattle.tracer_specification.specs.Rings.{cpu_pipe_read, pipe_read, rings, rings_after, rings_of_side, spare_after, spare_rings}
use Rattle.tracer_specification.specs.Settings.{NumberedEvent, declared_events, event_named, event_named_in, instance_names, is_enabled, is_there, now_of}
use Rattle.tracer_specification.specs.Snapshots.{has_spare, live_side, written_snapshot}
use Rattle.tracer_specification.specs.Triggers.{Trigger, is_left, snapshot_trigger_of, times_left}
use Rattle.tracer_specification.specs.Waiting.{waiting, waits_in}
use Rattle.tracer_specification.specs.IdleEvents.{has_active_hist, has_times_left, is_idle, records, wants}
use Rattle.history_laws.specs.IdleEmissions.{IsUnchanged, OnlyTicks, ShowsTheClock, reads_clock, shows_clock}

-- ---- names

-- tests that agree for each name
any-same : (one other : Option (List ℕ) → Bool) (names : List (List ℕ))
    → ((name : List ℕ) → list_any (bytes_eq name) names ≡ true → one (Some name) ≡ other (Some name))
    → list_any one (map (λ (n : List ℕ). Some n) names) ≡ list_any other (map (λ (n : List ℕ). Some n) names)
any-same one other [] same = refl
any-same one other (name ∷ names) same =
    let itself : bytes_eq name name ≡ true = (bytes_eq-Decides name name).1 refl in
    let here : one (Some name) ≡ other (Some name) = same name (ap (λ (b : Bool). b || list_any (bytes_eq name) names) itself) in
    let rest = any-same one other names (λ n there. same n (or_right (bytes_eq n name) (list_any (bytes_eq n) names) there)) in
    ap (λ (b : Bool). b || list_any one (map (λ (n : List ℕ). Some n) names)) here ∙ ap (λ (b : Bool). other (Some name) || b) rest

-- ---- an instance of which all is the same

module _ (past after : List Request) (instance : Option (List ℕ)) (same : IsUnchanged instance past after) where
  live-same : (g : Config) → rings g instance after ≡ rings g instance past
  live-same g = ap (λ (side : ℕ). rings_of_side g instance side after) same.live ∙ same.sides g (live_side instance past)

  spare-same : (g : Config) → spare_rings g instance after ≡ spare_rings g instance past
  spare-same g =
      ap (λ (there : Bool). if there then Some (rings_of_side g instance (1 - live_side instance after) after) else None) same.spare
      ∙ ap (λ (side : ℕ). if has_spare instance past then Some (rings_of_side g instance (1 - side) after) else None) same.live
      ∙ ap (λ (f : List (List ring.Event)). if has_spare instance past then Some f else None) (same.sides g (1 - live_side instance past))

  own-hists : (event : Definition) → hists_of instance event after ≡ hists_of instance event past
  own-hists event = ap (those_of event) same.hists

  -- ---- what its files show of triggers

  hist-shown : (t : HistTrigger) → shown_hist instance after t ≡ shown_hist instance past t
  hist-shown t =
      ap (λ (b : Bool). let shown : texts.Trigger = texts.Hist (record {
        spec = t.spec;
        paused = b;
        table = table_of instance t after;
        rules = t.spec.sort_sources;
      }) in shown) (same.paused t.table)
      ∙ ap (λ (table : Table). let shown : texts.Trigger = texts.Hist (record {
        spec = t.spec;
        paused = is_paused instance t.table past;
        table = table;
        rules = t.spec.sort_sources;
      }) in shown) (same.tables t)

  hists-shown : (hists : List HistTrigger) → map (shown_hist instance after) hists ≡ map (shown_hist instance past) hists
  hists-shown [] = refl
  hists-shown (t ∷ hists) = rw (hist-shown t, hists-shown hists) refl

  order-shown : (event : Definition) (attached : Option Trigger) (hists : List HistTrigger)
      → ((t : Trigger) → attached ≡ Some t → times_left event t after ≡ times_left event t past)
      → in_order instance after event attached hists ≡ in_order instance past event attached hists
  order-shown event None hists times = hists-shown hists
  order-shown event (Some t) hists times =
      let older = filter (λ (h : HistTrigger). nat_lt h.number t.number) hists in
      let newer = filter (λ (h : HistTrigger). not (nat_lt h.number t.number)) hists in
      ap (λ (ts : List texts.Trigger). ts ++ shown_trigger after event t ∷ map (shown_hist instance after) newer) (hists-shown older)
      ∙ ap (λ (ts : List texts.Trigger). map (shown_hist instance past) older ++ shown_trigger after event t ∷ ts) (hists-shown newer)
      ∙ ap (λ (left : Option ℕ). map (shown_hist instance past) older
      ++ texts.Snapshot left (option_map (λ (f : Parsed). f.text) t.spec.filter) ∷ map (shown_hist instance past) newer) (times t refl)

  triggers-shown : (name : List ℕ) (found : Option NumberedEvent) → event_named name past ≡ found
      → triggers_of_event instance after found ≡ triggers_of_event instance past found
  triggers-shown name None is = refl
  triggers-shown name (Some k) is =
      ap texts.trigger_text
      (ap (λ (t : Option Trigger). in_order instance after k.event t (hists_of instance k.event after)) (same.snapshot_triggers k.event)
      ∙ ap (in_order instance after k.event (snapshot_trigger_of instance k.event past)) (own-hists k.event)
      ∙ order-shown k.event (snapshot_trigger_of instance k.event past) (hists_of instance k.event past) (λ t attached. same.times name k t is attached))

  histograms-shown : (found : Option NumberedEvent) → hists_of_event instance after found ≡ hists_of_event instance past found
  histograms-shown None = refl
  histograms-shown (Some k) =
      ap (λ (ts : List HistTrigger). hist_text (map (shown_hist instance after) ts)) (own-hists k.event)
      ∙ ap hist_text (hists-shown (hists_of instance k.event past))

  -- ---- what a write to a trigger file or to `snapshot` answers

  trigger-same : (append : Bool) (text : List ℕ) (event : Definition)
      → trigger_answer instance after append text event ≡ trigger_answer instance past append text event
  unfolding trigger_answer
  trigger-same append text event =
      ap (λ (t : Option Trigger). said_answer append t (kept_by append (hists_of instance event after)) (left_by event append (hist_triggers instance after))
      (said_of event text)) (same.snapshot_triggers event)
      ∙ ap (λ (ts : List HistTrigger). said_answer append (snapshot_trigger_of instance event past) (kept_by append (those_of event ts))
      (left_by event append ts) (said_of event text)) same.hists

  named-trigger-same : (append : Bool) (text : List ℕ) (found : Option NumberedEvent)
      → named_trigger_answer instance after append text found ≡ named_trigger_answer instance past append text found
  named-trigger-same append text None = refl
  named-trigger-same append text (Some k) = trigger-same append text k.event

  has-trigger : (events : List Definition)
      → list_any (λ event. is_some (snapshot_trigger_of instance event after)) events ≡ list_any (λ event. is_some (snapshot_trigger_of instance event past)) events
  has-trigger [] = refl
  has-trigger (event ∷ events) = rw (same.snapshot_triggers event, has-trigger events) refl

  flags : (events : List Definition)
      → map (λ (event : Definition). is_enabled instance event.name after) events ≡ map (λ (event : Definition). is_enabled instance event.name past) events
  flags [] = refl
  flags (event ∷ events) = rw (same.enabled event.name, flags events) refl

  -- ---- what is wanted

  left-same : (name : List ℕ) (k : NumberedEvent) (t : Option Trigger) → event_named name past ≡ Some k → snapshot_trigger_of instance k.event past ≡ t
      → has_times_left k.event t after ≡ has_times_left k.event t past
  left-same name k None declared is = refl
  left-same name k (Some t) declared is = ap is_left (same.times name k t declared is)

  active-same : (hists : List HistTrigger) → list_any (λ t. not (is_paused instance t.table after)) hists ≡ list_any (λ t. not (is_paused instance t.table past)) hists
  active-same [] = refl
  active-same (t ∷ hists) = rw (same.paused t.table, active-same hists) refl

  pub wants-same : (name : List ℕ) (k : NumberedEvent) → event_named name past ≡ Some k → wants instance k.event after ≡ wants instance k.event past
  wants-same name k declared =
      let one : records instance k.event after ≡ records instance k.event past = rw (same.tracing, same.enabled k.event.name) refl in
      let two : has_active_hist instance k.event after ≡ has_active_hist instance k.event past =
      ap (λ (ts : List HistTrigger). list_any (λ t. not (is_paused instance t.table after)) (those_of k.event ts)) same.hists
      ∙ active-same (hists_of instance k.event past) in
      let three : has_times_left k.event (snapshot_trigger_of instance k.event after) after ≡ has_times_left k.event (snapshot_trigger_of instance k.event past) past =
      ap (λ (t : Option Trigger). has_times_left k.event t after) (same.snapshot_triggers k.event)
      ∙ left-same name k (snapshot_trigger_of instance k.event past) declared refl in
      ap (λ (b : Bool). b || (has_active_hist instance k.event after || has_times_left k.event (snapshot_trigger_of instance k.event after) after)) one
      ∙ ap (λ (b : Bool). records instance k.event past || (b || has_times_left k.event (snapshot_trigger_of instance k.event after) after)) two
      ∙ ap (λ (b : Bool). records instance k.event past || (has_active_hist instance k.event past || b)) three

-- ---- two pasts of which the clock alone differs

module _ (count : ℕ) (past after : List Request) (ticks : OnlyTicks count past after) where
  pub named : (name : List ℕ) → event_named name after ≡ event_named name past
  named name = ap (λ (es : List Definition). event_named_in es name) ticks.events

  pub there : (instance : Option (List ℕ)) → is_there instance after ≡ is_there instance past
  there None = refl
  there (Some name) = ap (list_any (bytes_eq name)) ticks.names

  pub idle-same : (name : List ℕ) (k : NumberedEvent) → event_named name past ≡ Some k → is_idle k.event after ≡ is_idle k.event past
  idle-same name k declared =
      ap (λ (names : List (List ℕ)). not (list_any (λ i. wants i k.event after) (None ∷ map (λ (n : List ℕ). Some n) names))) ticks.names
      ∙ ap (λ (b : Bool). not (b || list_any (λ i. wants i k.event after) (map (λ (n : List ℕ). Some n) (instance_names past)))) (each None refl)
      ∙ ap (λ (b : Bool). not (wants None k.event past || b))
      (any-same (λ i. wants i k.event after) (λ i. wants i k.event past) (instance_names past) (λ n is. each (Some n) is))
    where
      each : (instance : Option (List ℕ)) → is_there instance past ≡ true → wants instance k.event after ≡ wants instance k.event past
      each instance is = wants-same past after instance (ticks.each instance is) name k declared

  -- ---- what files show

  trace-shown : (g : Config) (instance : Option (List ℕ)) (cpu : Option ℕ) → IsUnchanged instance past after
      → shown_trace g instance after cpu ≡ shown_trace g instance past cpu
  unfolding shown_trace
  trace-shown g instance cpu same =
      ap (λ (es : List Definition). trace_text es g.pages g.page_bytes (rings g instance after) cpu) ticks.events
      ∙ ap (λ (f : List (List ring.Event)). trace_text (declared_events past) g.pages g.page_bytes f cpu) (live-same past after instance same g)

  snapshot-shown : (g : Config) (instance : Option (List ℕ)) → IsUnchanged instance past after
      → shown_snapshot g instance after ≡ shown_snapshot g instance past
  unfolding shown_snapshot
  snapshot-shown g instance same =
      ap (λ (es : List Definition). snapshot_text es g.pages g.page_bytes (spare_rings g instance after)) ticks.events
      ∙ ap (snapshot_text (declared_events past) g.pages g.page_bytes) (spare-same past after instance same g)

  pipe-shown : (g : Config) (instance : Option (List ℕ)) (limit : Option ℕ) → IsUnchanged instance past after
      → shown_pipe g instance after limit ≡ shown_pipe g instance past limit
  unfolding shown_pipe
  pipe-shown g instance limit same =
      ap (λ (es : List Definition). pipe_text es (pipe_read g limit (rings g instance after)).taken) ticks.events
      ∙ ap (λ (f : List (List ring.Event)). pipe_text (declared_events past) (pipe_read g limit f).taken) (live-same past after instance same g)

  cpu_pipe-shown : (g : Config) (instance : Option (List ℕ)) (cpu : ℕ) (limit : Option ℕ) → IsUnchanged instance past after
      → shown_cpu_pipe g instance after cpu limit ≡ shown_cpu_pipe g instance past cpu limit
  unfolding shown_cpu_pipe
  cpu_pipe-shown g instance cpu limit same =
      ap (λ (es : List Definition). pipe_text es (cpu_pipe_read g cpu limit (rings g instance after)).taken) ticks.events
      ∙ ap (λ (f : List (List ring.Event)). pipe_text (declared_events past) (cpu_pipe_read g cpu limit f).taken) (live-same past after instance same g)

  -- the clock itself
  stats-shown : (g : Config) (instance : Option (List ℕ)) (cpu : ℕ) → IsUnchanged instance past after
      → cpu_stats_text g instance after cpu ≡ stats_text (cpu_stats g.pages g.page_bytes (rings g instance past) cpu) (now_of past + count)
  unfolding cpu_stats_text
  stats-shown g instance cpu same =
      ap (λ (f : List (List ring.Event)). stats_text (cpu_stats g.pages g.page_bytes f cpu) (now_of after)) (live-same past after instance same g)
      ∙ ap (stats_text (cpu_stats g.pages g.page_bytes (rings g instance past) cpu)) ticks.now

  declarations-shown : declarations_text after ≡ declarations_text past
  unfolding declarations_text
  declarations-shown = rw ticks.events refl

  text-same : (g : Config) (instance : Option (List ℕ)) (file : File) → IsUnchanged instance past after → shows_clock file ≡ false
      → text_of g instance after file ≡ text_of g instance past file
  text-same g instance SyntheticEvents same quiet = declarations-shown
  text-same g instance (OfInstance top.Trace) same quiet = trace-shown g instance None same
  text-same g instance (OfInstance top.TracePipe) same quiet = refl
  text-same g instance (OfInstance top.Overwrite) same quiet = ap flag_text same.overwriting
  text-same g instance (OfInstance top.TraceOptions) same quiet = ap option_text same.overwriting
  text-same g instance (OfInstance top.TracingOn) same quiet = ap flag_text same.tracing
  text-same g instance (OfInstance top.Snapshot) same quiet = snapshot-shown g instance same
  text-same g instance (OfInstance top.EventsEnable) same quiet =
      ap (λ (es : List Definition). switches_text (map (λ (event : Definition). is_enabled instance event.name after) es)) ticks.events
      ∙ ap switches_text (flags past after instance same (declared_events past))
  text-same g instance (OfInstance top.EventsFilter) same quiet = refl
  text-same g instance (OfCpu cpu per_cpu.Trace) same quiet = trace-shown g instance (Some cpu) same
  text-same g instance (OfCpu cpu per_cpu.TracePipe) same quiet = refl
  text-same g instance (OfCpu cpu per_cpu.Stats) same quiet = absurd (false≢true (sym quiet))
  text-same g instance (OfEvent event per_event.Enable) same quiet = ap flag_text (same.enabled event)
  text-same g instance (OfEvent event per_event.Filter) same quiet = ap filter_text (same.filters event)
  text-same g instance (OfEvent event per_event.Trigger) same quiet =
      ap (triggers_of_event instance after) (named event) ∙ triggers-shown past after instance same event (event_named event past) refl
  text-same g instance (OfEvent event per_event.Hist) same quiet =
      ap (hists_of_event instance after) (named event) ∙ histograms-shown past after instance same (event_named event past)
  text-same g instance (OfEvent event per_event.Format) same quiet = ap format_of_event (named event)

  -- ---- what requests answer

  read-same : (g : Config) (instance : Option (List ℕ)) (limit : Option ℕ) (file : File) → IsUnchanged instance past after → shows_clock file ≡ false
      → read_answer g instance after limit file ≡ read_answer g instance past limit file
  read-same g instance limit (OfInstance top.TracePipe) same quiet = rw (pipe-shown g instance limit same) refl
  read-same g instance limit (OfCpu cpu per_cpu.TracePipe) same quiet = rw (cpu_pipe-shown g instance cpu limit same) refl
  read-same g instance limit (OfInstance top.EventsFilter) same quiet = refl
  read-same g instance limit file same quiet = ap (whole_text limit) (text-same g instance file same quiet)

  declared-same : (g : Config) (append : Bool) (text : List ℕ) → declaration_answer g after append text ≡ declaration_answer g past append text
  unfolding declaration_answer
  declared-same g append text = by (definition_of text)
    where
      by : (read : Result Definition ℕ) → read_declaration_answer g after append (cause_in text) read ≡ read_declaration_answer g past append (cause_in text) read
      by (Ok definition) = rw ticks.events refl
      by (Err at) = refl

  snapshot-same : (g : Config) (instance : Option (List ℕ)) (text : List ℕ) → IsUnchanged instance past after
      → snapshot_answer instance after text ≡ snapshot_answer instance past text
  unfolding snapshot_answer
  snapshot-same g instance text same =
      ap (λ (es : List Definition). spare_answer (list_any (λ event. is_some (snapshot_trigger_of instance event after)) es) (written_snapshot text)) ticks.events
      ∙ ap (λ (b : Bool). spare_answer b (written_snapshot text)) (has-trigger past after instance same (declared_events past))

  write-same : (g : Config) (instance : Option (List ℕ)) (append : Bool) (text : List ℕ) (file : File) → IsUnchanged instance past after
      → write_answer g instance after append text file ≡ write_answer g instance past append text file
  write-same g instance append text SyntheticEvents same = declared-same g append text
  write-same g instance append text (OfInstance top.Snapshot) same = snapshot-same g instance text same
  write-same g instance append text (OfInstance top.EventsFilter) same = ap (filter_of_all_answer text) ticks.events
  write-same g instance append text (OfInstance top.Trace) same = refl
  write-same g instance append text (OfInstance top.TracePipe) same = refl
  write-same g instance append text (OfInstance top.Overwrite) same = refl
  write-same g instance append text (OfInstance top.TraceOptions) same = refl
  write-same g instance append text (OfInstance top.TracingOn) same = refl
  write-same g instance append text (OfInstance top.EventsEnable) same = refl
  write-same g instance append text (OfCpu cpu per_cpu.Trace) same = refl
  write-same g instance append text (OfCpu cpu per_cpu.TracePipe) same = refl
  write-same g instance append text (OfCpu cpu per_cpu.Stats) same = refl
  write-same g instance append text (OfEvent event per_event.Enable) same = refl
  write-same g instance append text (OfEvent event per_event.Filter) same = ap (named_filter_answer text) (named event)
  write-same g instance append text (OfEvent event per_event.Trigger) same =
      ap (named_trigger_answer instance after append text) (named event)
      ∙ named-trigger-same past after instance same append text (event_named event past)
  write-same g instance append text (OfEvent event per_event.Hist) same = refl
  write-same g instance append text (OfEvent event per_event.Format) same = refl

  missing-same : (g : Config) (file : File) → missing g after file ≡ missing g past file
  missing-same g SyntheticEvents = refl
  missing-same g (OfInstance file) = refl
  missing-same g (OfCpu cpu file) = refl
  missing-same g (OfEvent event file) = rw (named event) refl

  -- a file that is there in an instance that is
  file-same : {A : Type 0} (g : Config) (instance : Option (List ℕ)) (file : File) (answered other : Result A Refusal)
      → (IsUnchanged instance past after → answered ≡ other)
      → instance_answer instance after (unless_refused (missing g after file) answered) ≡ instance_answer instance past (unless_refused (missing g past file) other)
  file-same {A} g instance file answered other same =
      ap (λ (gone : Option Refusal). instance_answer instance after (unless_refused gone answered)) (missing-same g file)
      ∙ ap (λ (b : Bool). if b then unless_refused (missing g past file) answered else Err NoSuchInstance) (there instance)
      ∙ by (is_there instance past) refl
    where
      by : (b : Bool) → is_there instance past ≡ b
          → (if b then unless_refused (missing g past file) answered else Err NoSuchInstance)
          ≡ (if b then unless_refused (missing g past file) other else Err NoSuchInstance)
      by true is = ap (unless_refused (missing g past file)) (same (ticks.each instance is))
      by false is = refl

  named-answer-same : (name : List ℕ) → named_answer after name ≡ named_answer past name
  unfolding named_answer
  named-answer-same name = rw (there (Some name), ticks.names) refl

  pub answer-same : (g : Config) (next : Request) → reads_clock next ≡ false → answer_with_room g after next ≡ answer_with_room g past next
  unfolding emission_answer
  answer-same g (Emission name cpu pid pairs) quiet = rw (named name) refl
  answer-same g (MakeInstance None) quiet = refl
  answer-same g (MakeInstance (Some name)) quiet = named-answer-same name
  answer-same g (RemoveInstance None) quiet = refl
  answer-same g (RemoveInstance (Some name)) quiet = rw (there (Some name)) refl
  answer-same g (WriteFile instance None append text) quiet = rw (there instance) refl
  answer-same g (WriteFile instance (Some file) append text) quiet =
      file-same g instance file (write_answer g instance after append text file) (write_answer g instance past append text file)
      (write-same g instance append text file)
  answer-same g (ReadFile instance None limit) quiet = rw (there instance) refl
  answer-same g (ReadFile instance (Some file) limit) quiet =
      file-same g instance file (read_answer g instance after limit file) (read_answer g instance past limit file)
      (λ same. read-same g instance limit file same quiet)

  waits-same : (g : Config) (instance : Option (List ℕ)) (file : File) → IsUnchanged instance past after
      → waits_in g instance after file ≡ waits_in g instance past file
  waits-same g instance (OfInstance top.TracePipe) same = rw (live-same past after instance same g) refl
  waits-same g instance (OfCpu cpu per_cpu.TracePipe) same = rw (live-same past after instance same g) refl
  waits-same g instance (OfInstance top.EventsFilter) same = refl
  waits-same g instance file same = refl

  pub waiting-same : (g : Config) (instance : Option (List ℕ)) (file : Option File) → waiting g after instance file ≡ waiting g past instance file
  unfolding waiting
  waiting-same g instance None = rw (there instance) refl
  waiting-same g instance (Some file) =
      file-same g instance file (waits_in g instance after file) (waits_in g instance past file) (waits-same g instance file)

  pub clock-moves : (g : Config) (instance : Option (List ℕ)) (cpu : ℕ) (limit : Option ℕ) → ShowsTheClock g count past after instance cpu limit
  unfolding cpu_stats_text
  clock-moves g instance cpu limit = record {
    before = refl;
    later =
        file-same g instance (OfCpu cpu per_cpu.Stats) (whole_text limit (cpu_stats_text g instance after cpu))
        (whole_text limit (stats_text (cpu_stats g.pages g.page_bytes (rings g instance past) cpu) (now_of past + count)))
        (λ same. ap (whole_text limit) (stats-shown g instance cpu same));
  }

  -- a read leaves the same
  pub read-leaves : (g : Config) (reader : Option (List ℕ)) (file : Option File) (limit : Option ℕ) (instance : Option (List ℕ)) (side : ℕ)
      → is_there instance past ≡ true
      → rings_of_side g instance side (ReadFile reader file limit ∷ after) ≡ rings_of_side g instance side (ReadFile reader file limit ∷ past)
  read-leaves g reader file limit instance side is =
      let same = ticks.each instance is in
      let read = ReadFile reader file limit in
      ap (λ (live : ℕ). if side == live then rings_after g instance after read (rings_of_side g instance side after)
      else spare_after g instance read (rings_of_side g instance side after)) same.live
      ∙ ap (λ (f : List (List ring.Event)). if side == live_side instance past then rings_after g instance past read f
      else spare_after g instance read f) (same.sides g side)
