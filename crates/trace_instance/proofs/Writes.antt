-- What writes to the files of an instance answer and change.
use Rattle.std.proofs.Common.{◌≡◌, ℕ, suc, ◌<◌, Bool, true, false, if◌then◌else◌, unwrap_or, List, [], ◌∷◌, length, map, replicate, get_or, is_some, Option, Some, None, Ok, Err, refl, sym, ap, ◌∙◌, arith, Vec, Global}
use Rattle.std.specs.Option.{option_map}
use Rattle.std.specs.Str.{bytes_eq}
use Rattle.std.proofs.lemmas.Bool.{false_from_ne_true}
use Rattle.std.proofs.lemmas.List.{length-map}
use Rattle.std.proofs.lemmas.Slice.Eq.{bytes_eq-Decides}
use Rattle.page_ring.specs.Events.{Event}
use Rattle.trace_filter.specs.Filters.{Parsed, parsed_of}
use Rattle.trace_format.specs.Catalogs.{AreEvents}
use Rattle.trace_format.specs.Definitions.{Definition}
use Rattle.tracer_specification.specs.History.{filter_of_all_answer, named_filter_answer, switch_answer, option_answer, tracing_answer}
use Rattle.trace_command.specs.Paths as paths
use Rattle.trace_command.specs.Refusals.{IsRefusal}
use Rattle.trace_command.specs.Requests.{Request}
use Rattle.trace_command.specs.declared.file_name.CpuFile.TheVariants as per_cpu
use Rattle.trace_command.specs.declared.file_name.EventFile.TheVariants as per_event
use Rattle.trace_command.specs.declared.file_name.TopFile.TheVariants as top
use Rattle.tracer_specification.specs.Settings.{event_named, declared_events, clears_filter, can_take, sets_filter, switches, written_flag, written_option, written_tracing}
use Rattle.tracer_specification.specs.Rings.{rings_after_write}
use Rattle.trace_command.specs.declared.command.Config.{Config}
use Rattle.trace_command.specs.declared.command.Reply.TheVariants as reply
use Rattle.trace_command.specs.declared.refusal.Refusal.{Refusal}
use Rattle.trace_command.specs.declared.refusal.Refusal.TheVariants as refusal
use Rattle.trace_instance.specs.Changes.{change_of, changed_filter, changed_filters}
use Rattle.trace_instance.specs.FileAnswers.{IsWriteChange}
use Rattle.trace_instance.specs.private.Commands.{IsWrittenFilter, needed_flag}
use Rattle.trace_instance.specs.Files.{name_at}
use Rattle.trace_instance.specs.declared.change.InstanceChange.TheVariants.{Keep, Switch, SwitchAll, SetFilter, SetFilters, ClearFilters, SetOverwrite, SetTracing, Clear, ClearCpu}
use Rattle.trace_instance.specs.declared.change.FilterChange.{FilterChange}
use Rattle.trace_instance.proofs.Calm.{no_event, quiet-keep}
use Rattle.trace_instance.proofs.Effects.{own_write}
use Rattle.trace_instance.proofs.Filtering.{all-late, changed-map, cleared-all, no-event-refused}
use Rattle.trace_instance.proofs.EventReads.{name-at_place}
use Rattle.trace_instance.proofs.UsableInstance.{usable-stands}
use Rattle.tracer_specification.proofs.EventLists.{map-agrees, map-constant, map-set, named_at, one_index}

-- ---- what changes

pub clears-trace : (g : Config) (instance : Option (List ℕ)) (past : List Request) (text : List ℕ) (append : Bool)
    → IsWriteChange g instance past append text (paths.OfInstance top.Trace) (Ok (if append then Keep else Clear))
clears-trace g instance past text true = (
  refl,
  own_write g instance past (paths.OfInstance top.Trace) true text Keep tt quiet-keep
      (record { enabled = λ old. refl; filters = λ old. refl; overwrite = λ old. refl; tracing = λ old. refl; rings = λ old. refl }),
  λ i stands. tt,
)
clears-trace g instance past text false = (
  refl,
  own_write g instance past (paths.OfInstance top.Trace) false text Clear tt (record { triggers = λ old. refl; hists = λ old. refl; asks = λ table. refl; joined = λ name past. tt; sides = λ cpus pages page_bytes f. refl })
      (record { enabled = λ old. refl; filters = λ old. refl; overwrite = λ old. refl; tracing = λ old. refl; rings = λ old. refl }),
  λ i stands. tt,
)

pub clears-cpu : (g : Config) (instance : Option (List ℕ)) (past : List Request) (text : List ℕ) (cpu : ℕ) → cpu < g.cpus → (append : Bool)
    → IsWriteChange g instance past append text (paths.OfCpu cpu per_cpu.Trace) (Ok (if append then Keep else ClearCpu cpu))
clears-cpu g instance past text cpu there true = (
  refl,
  own_write g instance past (paths.OfCpu cpu per_cpu.Trace) true text Keep tt quiet-keep
      (record { enabled = λ old. refl; filters = λ old. refl; overwrite = λ old. refl; tracing = λ old. refl; rings = λ old. refl }),
  λ i stands. tt,
)
clears-cpu g instance past text cpu there false = (
  refl,
  own_write g instance past (paths.OfCpu cpu per_cpu.Trace) false text (ClearCpu cpu) tt (record { triggers = λ old. refl; hists = λ old. refl; asks = λ table. refl; joined = λ name past. tt; sides = λ cpus pages page_bytes f. refl })
      (record { enabled = λ old. refl; filters = λ old. refl; overwrite = λ old. refl; tracing = λ old. refl; rings = λ old. refl }),
  λ i stands. rw stands.shaped.live.cpus there,
)

-- a write that empties no ring
same-rings : (append : Bool) (file : paths.File) (old : List (List Event)) → rings_after_write false (Some file) old ≡ old
    → rings_after_write append (Some file) old ≡ old
same-rings true file old quiet = refl
same-rings false file old quiet = quiet

needed-some : (flag : Option Bool) (value : Bool) → needed_flag flag ≡ Ok value → flag ≡ Some value
needed-some (Some flag) value is = cc
needed-some None value is = absurd (cc)

-- a text that is no flag
bad-flag : (flag : Option Bool) (refused : Refusal) → needed_flag flag ≡ Err refused
    → IsRefusal refused (if is_some flag then Ok reply.Done else Err refusal.BadValue)
bad-flag (Some flag) refused is = absurd (cc)
bad-flag None refused is =
    let bad : refused ≡ refusal.BadValue = cc in
    rw bad (λ other. refl, λ early. refl)

pub no-switch : (text : List ℕ) (refused : Refusal) → needed_flag (written_flag text) ≡ Err refused → IsRefusal refused (switch_answer text)
unfolding switch_answer
no-switch text = bad-flag (written_flag text)

pub no-option : (text : List ℕ) (refused : Refusal) → needed_flag (written_option text) ≡ Err refused → IsRefusal refused (option_answer text)
unfolding option_answer
no-option text = bad-flag (written_option text)

pub no-number : (text : List ℕ) (refused : Refusal) → needed_flag (written_tracing text) ≡ Err refused → IsRefusal refused (tracing_answer text)
unfolding tracing_answer
no-number text = bad-flag (written_tracing text)

pub sets-overwrite : (g : Config) (instance : Option (List ℕ)) (past : List Request) (append : Bool) (text : List ℕ) (flag : Bool) → needed_flag (written_flag text) ≡ Ok flag
    → IsWriteChange g instance past append text (paths.OfInstance top.Overwrite) (Ok (SetOverwrite flag))
unfolding switch_answer
sets-overwrite g instance past append text flag needed =
    let is = needed-some (written_flag text) flag needed in (
      rw is refl,
      own_write g instance past (paths.OfInstance top.Overwrite) append text (SetOverwrite flag) tt (record { triggers = λ old. refl; hists = λ old. refl; asks = λ table. refl; joined = λ name past. tt; sides = λ cpus pages page_bytes f. refl })
          (record { enabled = λ old. refl; filters = λ old. refl; overwrite = λ old. rw is refl; tracing = λ old. refl; rings = λ old. same-rings append (paths.OfInstance top.Overwrite) old refl }),
      λ i stands. tt,
    )

pub sets-option : (g : Config) (instance : Option (List ℕ)) (past : List Request) (append : Bool) (text : List ℕ) (flag : Bool) → needed_flag (written_option text) ≡ Ok flag
    → IsWriteChange g instance past append text (paths.OfInstance top.TraceOptions) (Ok (SetOverwrite flag))
unfolding option_answer
sets-option g instance past append text flag needed =
    let is = needed-some (written_option text) flag needed in (
      rw is refl,
      own_write g instance past (paths.OfInstance top.TraceOptions) append text (SetOverwrite flag) tt (record { triggers = λ old. refl; hists = λ old. refl; asks = λ table. refl; joined = λ name past. tt; sides = λ cpus pages page_bytes f. refl })
          (record { enabled = λ old. refl; filters = λ old. refl; overwrite = λ old. rw is refl; tracing = λ old. refl; rings = λ old. same-rings append (paths.OfInstance top.TraceOptions) old refl }),
      λ i stands. tt,
    )

pub sets-tracing : (g : Config) (instance : Option (List ℕ)) (past : List Request) (append : Bool) (text : List ℕ) (flag : Bool) → needed_flag (written_tracing text) ≡ Ok flag
    → IsWriteChange g instance past append text (paths.OfInstance top.TracingOn) (Ok (SetTracing flag))
unfolding tracing_answer
sets-tracing g instance past append text flag needed =
    let is = needed-some (written_tracing text) flag needed in (
      rw is refl,
      own_write g instance past (paths.OfInstance top.TracingOn) append text (SetTracing flag) tt (record { triggers = λ old. refl; hists = λ old. refl; asks = λ table. refl; joined = λ name past. tt; sides = λ cpus pages page_bytes f. refl })
          (record { enabled = λ old. refl; filters = λ old. refl; overwrite = λ old. refl; tracing = λ old. rw is refl; rings = λ old. same-rings append (paths.OfInstance top.TracingOn) old refl }),
      λ i stands. tt,
    )

-- an event has its own name, and no other's
pub own-name : (events : List Definition) (index : ℕ) (d : Definition) → index < length events → bytes_eq (get_or events index d).name (name_at events index) ≡ true
own-name events index d inside = (bytes_eq-Decides (get_or events index d).name (name_at events index)).1 (sym (name-at_place events index d inside))

pub other-name : (events : List Definition) (j index : ℕ) (d : Definition) → AreEvents [] events → j < length events → index < length events → (j ≡ index → ⊥)
    → bytes_eq (get_or events j d).name (name_at events index) ≡ false
other-name events j index d distinct within inside other = false_from_ne_true (bytes_eq (get_or events j d).name (name_at events index)) (λ is.
    let names : (get_or events j d).name ≡ (get_or events index d).name =
    (bytes_eq-Decides (get_or events j d).name (name_at events index)).0 is ∙ name-at_place events index d inside in
    other (one_index events j index d d distinct within inside names))

pub switches-all : (g : Config) (instance : Option (List ℕ)) (past : List Request) (append : Bool) (text : List ℕ) (flag : Bool) → AreEvents [] (declared_events past)
    → needed_flag (written_flag text) ≡ Ok flag → IsWriteChange g instance past append text (paths.OfInstance top.EventsEnable) (Ok (SwitchAll flag))
unfolding switch_answer
switches-all g instance past append text flag distinct needed =
    let is = needed-some (written_flag text) flag needed in
    let events = declared_events past in
    let enabled = λ (old : List ℕ → Bool).
    map-constant (λ (event : Definition). unwrap_or (switches event.name past (paths.OfInstance top.EventsEnable) text) (old event.name)) flag events no_event
    (λ j inside. rw (named_at events j no_event distinct inside, is) refl)
    ∙ ap (λ (n : ℕ). replicate n flag) (sym (length-map events (λ (event : Definition). old event.name))) in (
      rw is refl,
      own_write g instance past (paths.OfInstance top.EventsEnable) append text (SwitchAll flag) tt (record { triggers = λ old. refl; hists = λ old. refl; asks = λ table. refl; joined = λ name past. tt; sides = λ cpus pages page_bytes f. refl })
          (record { enabled = enabled; filters = λ old. refl; overwrite = λ old. refl; tracing = λ old. refl; rings = λ old. same-rings append (paths.OfInstance top.EventsEnable) old refl }),
      λ i stands. tt,
    )

pub switches-one : (g : Config) (instance : Option (List ℕ)) (past : List Request) (append : Bool) (text : List ℕ) (index : ℕ) (flag : Bool) → AreEvents [] (declared_events past)
    → index < length (declared_events past) → needed_flag (written_flag text) ≡ Ok flag
    → IsWriteChange g instance past append text (paths.OfEvent (name_at (declared_events past) index) per_event.Enable) (Ok (Switch index flag))
unfolding switch_answer
switches-one g instance past append text index flag distinct inside needed = (
  rw is refl,
  own_write g instance past (paths.OfEvent name per_event.Enable) append text (Switch index flag) tt (record { triggers = λ old. refl; hists = λ old. refl; asks = λ table. refl; joined = λ name past. tt; sides = λ cpus pages page_bytes f. refl })
      (record {
        enabled = λ old. map-set (λ (event : Definition). old event.name) (switched old) flag events index no_event inside (here old) (others old);
        filters = λ old. refl;
        overwrite = λ old. refl;
        tracing = λ old. refl;
        rings = λ old. same-rings append (paths.OfEvent name per_event.Enable) old refl;
      }),
  λ i stands. rw (usable-stands g instance past i stands).enabled inside,
)
  where
    events : List Definition
    events = declared_events past

    name : List ℕ
    name = name_at events index

    is : written_flag text ≡ Some flag
    is = needed-some (written_flag text) flag needed

    switched : (List ℕ → Bool) → Definition → Bool
    switched old event = unwrap_or (switches event.name past (paths.OfEvent name per_event.Enable) text) (old event.name)

    here : (old : List ℕ → Bool) → switched old (get_or events index no_event) ≡ flag
    here old =
        let same : bytes_eq (get_or events index no_event).name name ≡ true = own-name events index no_event inside in
        rw (same, is) refl

    others : (old : List ℕ → Bool) (j : ℕ) → j < length events → (j ≡ index → ⊥) → switched old (get_or events j no_event) ≡ old (get_or events j no_event).name
    others old j within other =
        let differ : bytes_eq (get_or events j no_event).name name ≡ false = other-name events j index no_event distinct within inside other in
        rw differ refl

pub sets-one : (g : Config) (instance : Option (List ℕ)) (past : List Request) (append : Bool) (text : List ℕ) (index : ℕ) (event : Definition) (kept : Option Parsed)
    → AreEvents [] (declared_events past) → index < length (declared_events past) → event ≡ get_or (declared_events past) index event
    → IsWrittenFilter text event (Ok kept)
    → IsWriteChange g instance past append text (paths.OfEvent (name_at (declared_events past) index) per_event.Filter) (Ok (SetFilter index kept))
sets-one g instance past append text index event kept distinct inside at written = (
  done,
  own_write g instance past (paths.OfEvent name per_event.Filter) append text (SetFilter index kept) tt (record { triggers = λ old. refl; hists = λ old. refl; asks = λ table. refl; joined = λ name past. tt; sides = λ cpus pages page_bytes f. refl })
      (record {
        enabled = λ old. refl;
        filters = λ old. map-set (λ (e : Definition). option_map (parsed_of e) (old e.name)) (filtered old) kept events index event inside (here old) (others old);
        overwrite = λ old. refl;
        tracing = λ old. refl;
        rings = λ old. same-rings append (paths.OfEvent name per_event.Filter) old refl;
      }),
  λ i stands. rw (usable-stands g instance past i stands).filters inside,
)
  where
    events : List Definition
    events = declared_events past

    name : List ℕ
    name = name_at events index

    found : event_named name past ≡ Some (record { id = suc index; event = get_or events index event })
    found = rw (name-at_place events index event inside) (named_at events index event distinct inside)

    done : named_filter_answer text (event_named name past) ≡ Ok reply.Done
    done = rw (found, ← at) written.0

    filtered : (List ℕ → Option (List ℕ)) → Definition → Option Parsed
    filtered old e = option_map (parsed_of e) (unwrap_or (sets_filter e.name past (paths.OfEvent name per_event.Filter) text) (old e.name))

    here : (old : List ℕ → Option (List ℕ)) → filtered old (get_or events index event) ≡ kept
    here old =
        let same : bytes_eq (get_or events index event).name name ≡ true = own-name events index event inside in
        rw (same, ← at) (sym written.1)

    others : (old : List ℕ → Option (List ℕ)) (j : ℕ) → j < length events → (j ≡ index → ⊥)
        → filtered old (get_or events j event) ≡ option_map (parsed_of (get_or events j event)) (old (get_or events j event).name)
    others old j within other =
        let differ : bytes_eq (get_or events j event).name name ≡ false = other-name events j index event distinct within inside other in
        rw differ refl

pub refuses-one : (past : List Request) (text : List ℕ) (index : ℕ) (event : Definition) (refused : Refusal)
    → AreEvents [] (declared_events past) → index < length (declared_events past) → event ≡ get_or (declared_events past) index event
    → IsWrittenFilter text event (Err refused)
    → IsRefusal refused (named_filter_answer text (event_named (name_at (declared_events past) index) past))
refuses-one past text index event refused distinct inside at written =
    let events = declared_events past in
    let found : event_named (name_at events index) past ≡ Some (record { id = suc index; event = get_or events index event }) =
    rw (name-at_place events index event inside) (named_at events index event distinct inside) in
    rw (found, ← at) written

-- ---- the filter of all events

pub refuses-all : (past : List Request) (text : List ℕ) → length (declared_events past) ≡ 0
    → IsRefusal refusal.NoSuchEvent (filter_of_all_answer text (declared_events past))
refuses-all past text none =
    let refused = no-event-refused text (declared_events past) none in
    (λ other. refused, λ early. refused)

-- memory may be refused where there is an event
pub memory-for-all : (text : List ℕ) (events : List Definition) → 0 < length events → IsRefusal refusal.Memory (filter_of_all_answer text events)
memory-for-all text [] inside = absurd (omega arith)
memory-for-all text (event ∷ events) inside = (λ other. absurd (other refl), λ early. absurd (all-late text event events early))

pub clears-all : (g : Config) (instance : Option (List ℕ)) (past : List Request) (append : Bool) (text : List ℕ) → AreEvents [] (declared_events past)
    → 0 < length (declared_events past) → clears_filter text ≡ true → IsWriteChange g instance past append text (paths.OfInstance top.EventsFilter) (Ok ClearFilters)
clears-all g instance past append text distinct inside off =
    let events = declared_events past in
    let none : Option Parsed = None in
    let filters = λ (old : List ℕ → Option (List ℕ)).
    map-constant
    (λ (event : Definition). option_map (parsed_of event) (unwrap_or (sets_filter event.name past (paths.OfInstance top.EventsFilter) text) (old event.name)))
    none events no_event (λ j within. rw (named_at events j no_event distinct within, off) refl)
    ∙ ap (λ (n : ℕ). replicate n none) (sym (length-map events (λ (event : Definition). option_map (parsed_of event) (old event.name)))) in (
      cleared-all text events inside off,
      own_write g instance past (paths.OfInstance top.EventsFilter) append text ClearFilters tt (record { triggers = λ old. refl; hists = λ old. refl; asks = λ table. refl; joined = λ name past. tt; sides = λ cpus pages page_bytes f. refl })
          (record { enabled = λ old. refl; filters = filters; overwrite = λ old. refl; tracing = λ old. refl; rings = λ old. same-rings append (paths.OfInstance top.EventsFilter) old refl }),
      λ i stands. tt,
    )

pub sets-all : (g : Config) (instance : Option (List ℕ)) (past : List Request) (append : Bool) (text : List ℕ) (changes : Vec FilterChange Global) → AreEvents [] (declared_events past)
    → clears_filter text ≡ false → changes.items ≡ map (change_of text) (declared_events past) → filter_of_all_answer text (declared_events past) ≡ Ok reply.Done
    → IsWriteChange g instance past append text (paths.OfInstance top.EventsFilter) (Ok (SetFilters changes))
sets-all g instance past append text changes distinct on are done = (
  done,
  own_write g instance past (paths.OfInstance top.EventsFilter) append text (SetFilters changes) tt (record { triggers = λ old. refl; hists = λ old. refl; asks = λ table. refl; joined = λ name past. tt; sides = λ cpus pages page_bytes f. refl })
      (record {
        enabled = λ old. refl;
        filters = filters;
        overwrite = λ old. refl;
        tracing = λ old. refl;
        rings = λ old. same-rings append (paths.OfInstance top.EventsFilter) old refl;
      }),
  λ i stands. rw (are, (usable-stands g instance past i stands).filters) (length-map events (change_of text)),
)
  where
    events : List Definition
    events = declared_events past

    kept : (List ℕ → Option (List ℕ)) → Definition → Option Parsed
    kept old event = option_map (parsed_of event) (old event.name)

    filtered : (List ℕ → Option (List ℕ)) → Definition → Option Parsed
    filtered old event = option_map (parsed_of event) (unwrap_or (sets_filter event.name past (paths.OfInstance top.EventsFilter) text) (old event.name))

    each : (old : List ℕ → Option (List ℕ)) (event : Definition) (k : ℕ) → event_named event.name past ≡ Some (record { id = k; event = event })
        → filtered old event ≡ changed_filter (change_of text event) (kept old event)
    each old event k there = by (can_take text event) refl
      where
        by : (can : Bool) → can_take text event ≡ can → filtered old event ≡ changed_filter (change_of text event) (kept old event)
        by true is = rw (there, on, is) refl
        by false is = rw (there, on, is) refl

    all : (old : List ℕ → Option (List ℕ)) (j : ℕ) → j < length events
        → filtered old (get_or events j no_event) ≡ changed_filter (change_of text (get_or events j no_event)) (kept old (get_or events j no_event))
    all old j inside = each old (get_or events j no_event) (suc j) (named_at events j no_event distinct inside)

    filters : (old : List ℕ → Option (List ℕ)) → map (filtered old) events ≡ changed_filters changes.items (map (kept old) events)
    filters old =
        map-agrees (filtered old) (λ (e : Definition). changed_filter (change_of text e) (kept old e)) events no_event (all old)
        ∙ sym (changed-map (change_of text) (kept old) events)
        ∙ ap (λ (cs : List FilterChange). changed_filters cs (map (kept old) events)) (sym are)
