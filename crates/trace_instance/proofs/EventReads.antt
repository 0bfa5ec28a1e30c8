-- What the files of an event and the file of the spare side show is what the requests say.
use Rattle.std.proofs.Common.{◌≡◌, ℕ, zero, suc, ◌+◌, ◌<◌, nat_lt, Bool, false, not, List, [], ◌∷◌, ◌++◌, length, map, filter, get_or, All, IfSome, Option, Some, None, option_map, refl, sym, ap, ◌∙◌, subst, arith}
use Rattle.std.proofs.lemmas.List.{get_or-map, map-append}
use Rattle.std.proofs.lemmas.List.Elements.{All-filter}
use Rattle.std.proofs.lemmas.Simd.{map-map}
use Rattle.trace_command.specs.Requests.{Request}
use Rattle.trace_command.specs.declared.command.Config.{Config}
use Rattle.trace_filter.specs.Filters.{parsed_of}
use Rattle.trace_format.specs.Definitions.{Definition}
use Rattle.tracer_specification.proofs.EventLists.{named_at}
use Rattle.trace_buffer.specs.Buffers.{Seen}
use Rattle.record_text.specs.SnapshotText.{SpareHasShape}
use Rattle.trace_text.specs.HistText.{hist_text}
use Rattle.trace_text.specs.TriggerText as texts
use Rattle.trace_text.specs.TriggerText.{trigger_text}
use Rattle.trace_hist.specs.Groups.{group, grouped}
use Rattle.hist_entries.specs.Hits.{Hit}
use Rattle.hist_entries.proofs.Printing.{filter-over}
use Rattle.trace_trigger.specs.FittingLaws.{CountsAlike}
use Rattle.trace_trigger.specs.HistSpecs.{SpecSeen}
use Rattle.tracer_specification.specs.FileTexts.{filter_text, format_of_event, hists_of_event, in_order as in_order_said, shown_hist, shown_trigger, triggers_of_event}
use Rattle.tracer_specification.specs.HistTriggers.{HistTrigger, hists_of, hits_of}
use Rattle.tracer_specification.specs.Triggers as history
use Rattle.tracer_specification.specs.Triggers.{snapshot_trigger_of}
use Rattle.tracer_specification.specs.Settings.{declared_events, event_named, filter_of, is_enabled, kept_filter}
use Rattle.record_text.specs.FormatText.{format_text}
use Rattle.trace_instance.specs.FileAnswers.{IsSource}
use Rattle.trace_instance.specs.private.Commands.{shown_attached, shown_filter, shown_of, shown_with}
use Rattle.trace_instance.specs.TriggerLists.{in_order}
use Rattle.trace_instance.specs.Instances.{HasShape, kept_as, kept_trigger}
use Rattle.trace_instance.specs.KeptHists.{KeptTable, TableStandsFor, attached_as, kept_hists}
use Rattle.trace_instance.specs.Files.{name_at}
use Rattle.trace_instance.specs.declared.hists.AttachedHist.{AttachedHist}
use Rattle.trace_instance.specs.declared.read.FileSource.{FileSource}
use Rattle.trace_instance.specs.declared.tables.Table.{Table}
use Rattle.trace_instance.specs.declared.trigger.EventTrigger.TheVariants.{Snapshot, Hist}
use Rattle.trace_instance.specs.declared.trigger.AttachedSnapshot.{AttachedSnapshot}
use Rattle.trace_instance.proofs.Calm.{no_event}

-- the name of the event at an index
pub name-at_place : (events : List Definition) (i : ℕ) (d : Definition) → i < length events → name_at events i ≡ (get_or events i d).name
name-at_place [] i d inside = absurd (omega arith)
name-at_place (event ∷ events) zero d inside = refl
name-at_place (event ∷ events) (suc i) d inside = name-at_place events i d (omega arith)

-- the text of a kept filter is that of the filter as it was written
shown-filter : (event : Definition) (filter : Option (List ℕ)) → shown_filter (option_map (parsed_of event) filter) ≡ filter_text filter
unfolding shown_filter filter_text
shown-filter event None = refl
shown-filter event (Some text) = refl

-- ---- hist triggers

-- those that count alike group rows alike
grouped-alike : (one other : SpecSeen) (hits : List Hit) → CountsAlike one other → grouped one hits ≡ grouped other hits
unfolding grouped
grouped-alike one other hits alike = λ i. group (alike.size i) (alike.values i) hits

-- a hist trigger that is attached is shown as the requests say
shown-one : (name : Option (List ℕ)) (past : List Request) (tables : List Table) (h : HistTrigger) → TableStandsFor name past tables (attached_as h)
    → shown_attached tables (attached_as h) ≡ shown_hist name past h
shown-one name past tables h stands =
    let hits = hits_of name h.table past in
    let table : stands.kept.table ≡ grouped h.spec hits = stands.table ∙ sym (grouped-alike h.spec stands.kept.spec hits stands.alike) in
    let rules : stands.kept.spec.sort_sources ≡ h.spec.sort_sources = sym stands.alike.sort_sources in
    ap (λ (found : Option KeptTable). texts.Hist (shown_with h.spec found)) stands.there
    ∙ (λ i. texts.Hist (record { spec = h.spec; rules = rules i; paused = stands.paused i; table = table i }))

all-hists : (name : Option (List ℕ)) (past : List Request) (tables : List Table) (hists : List HistTrigger)
    → All (TableStandsFor name past tables) (map attached_as hists)
    → map (shown_attached tables) (map attached_as hists) ≡ map (shown_hist name past) hists
all-hists name past tables [] all = refl
all-hists name past tables (h ∷ hists) all =
    let first = shown-one name past tables h (all 0 (attached_as h) (omega arith)) in
    let rest = all-hists name past tables hists (λ k d inside. all (suc k) d (omega (arith, inside))) in
    λ i. first i ∷ rest i

-- those of a test are shown as those that were attached
shown-hists : (name : Option (List ℕ)) (past : List Request) (tables : List Table) (test : AttachedHist → Bool) (hists : List HistTrigger)
    → All (TableStandsFor name past tables) (map attached_as hists)
    → map (shown_attached tables) (filter test (map attached_as hists))
    ≡ map (shown_hist name past) (filter (λ (h : HistTrigger). test (attached_as h)) hists)
shown-hists name past tables test hists all =
    let own = filter-over attached_as test hists in
    ap (map (shown_attached tables)) own
    ∙ all-hists name past tables (filter (λ (h : HistTrigger). test (attached_as h)) hists)
    (subst (All (TableStandsFor name past tables)) own (All-filter test (TableStandsFor name past tables) (map attached_as hists) all))

-- triggers are shown in the order of those that were attached
shown-in_order : (name : Option (List ℕ)) (past : List Request) (tables : List Table) (event : Definition) (t : Option history.Trigger) (hists : List HistTrigger)
    → All (TableStandsFor name past tables) (map attached_as hists)
    → map (shown_of tables) (in_order (option_map (kept_as past event) t) (map attached_as hists)) ≡ in_order_said name past event t hists
shown-in_order name past tables event None hists all =
    map-map (shown_of tables) Hist (map attached_as hists) ∙ all-hists name past tables hists all
shown-in_order name past tables event (Some t) hists all =
    let is_older : AttachedHist → Bool = λ a. nat_lt a.number t.number in
    let is_newer : AttachedHist → Bool = λ a. not (nat_lt a.number t.number) in
    let older = map-map (shown_of tables) Hist (filter is_older (map attached_as hists)) ∙ shown-hists name past tables is_older hists all in
    let newer = map-map (shown_of tables) Hist (filter is_newer (map attached_as hists)) ∙ shown-hists name past tables is_newer hists all in
    map-append (shown_of tables) (map Hist (filter is_older (map attached_as hists)))
    (Snapshot (kept_as past event t) ∷ map Hist (filter is_newer (map attached_as hists)))
    ∙ (λ i. older i ++ shown_trigger past event t ∷ newer i)

-- ---- the event at an index of what is read

abbrev pub event_at : List Request → ℕ → Definition
event_at past index = get_or (declared_events past) index no_event

module _ (g : Config) (name : Option (List ℕ)) (past : List Request) (source : FileSource) (event : ℕ) (is : IsSource g name past source)
    (inside : event < length source.catalog.now) where
  declared : event < length (declared_events past)
  declared = rw (← is.events) inside

  called : (event_at past event).name ≡ name_at source.catalog.now event
  called =
      sym (name-at_place (declared_events past) event no_event declared) ∙ ap (λ (events : List Definition). name_at events event) (sym is.events)

  -- its switch
  pub enabled-at_place : get_or source.instance.now.enabled event false ≡ is_enabled name (name_at source.catalog.now event) past
  enabled-at_place =
      ap (λ (flags : List Bool). get_or flags event false) is.instance.enabled
      ∙ get_or-map (λ (e : Definition). is_enabled name e.name past) (declared_events past) event no_event false declared
      ∙ ap (λ (n : List ℕ). is_enabled name n past) called

  -- its filter
  pub filter-at_place : shown_filter (get_or source.instance.now.filters event None) ≡ filter_text (filter_of name (name_at source.catalog.now event) past)
  filter-at_place =
      rw is.instance.filters
      (ap shown_filter (get_or-map (kept_filter name past) (declared_events past) event no_event None declared)
      ∙ shown-filter (event_at past event) (filter_of name (event_at past event).name past)
      ∙ ap (λ (n : List ℕ). filter_text (filter_of name n past)) called)

  -- its format
  pub format-at_place : (d : Definition)
      → format_text (event + 1) (get_or source.catalog.now event d) ≡ format_of_event (event_named (name_at source.catalog.now event) past)
  format-at_place d =
      let found = named_at (declared_events past) event d is.distinct declared in
      let own : name_at source.catalog.now event ≡ (get_or (declared_events past) event d).name =
      ap (λ (events : List Definition). name_at events event) is.events ∙ name-at_place (declared_events past) event d declared in
      let next : event + 1 ≡ suc event = omega arith in
      rw (own, found, next, is.events) refl

  -- its hist triggers
  kept-at_place : get_or source.instance.now.hists event [] ≡ kept_hists name past (event_at past event)
  kept-at_place =
      ap (λ (hists : List (List AttachedHist)). get_or hists event []) is.instance.hists
      ∙ get_or-map (kept_hists name past) (declared_events past) event no_event [] declared

  -- and their tables
  tables-at_place : event < length source.instance.now.hists
      → All (TableStandsFor name past source.instance.now.tables) (kept_hists name past (event_at past event))
  tables-at_place there =
      subst (λ (attached : List AttachedHist). All (TableStandsFor name past source.instance.now.tables) attached) kept-at_place
      (is.instance.tables event [] there)

  -- its triggers
  pub triggers-at_place : event < length source.instance.now.hists
      → trigger_text (map (shown_of source.instance.now.tables) (in_order (get_or source.instance.now.triggers event None) (get_or source.instance.now.hists event [])))
      ≡ triggers_of_event name past (event_named (name_at source.catalog.now event) past)
  triggers-at_place there =
      let at_place = event_at past event in
      let tables = source.instance.now.tables in
      let found = named_at (declared_events past) event no_event is.distinct declared in
      let kept : get_or source.instance.now.triggers event None ≡ kept_trigger name past at_place =
      ap (λ (ts : List (Option AttachedSnapshot)). get_or ts event None) is.instance.triggers
      ∙ get_or-map (kept_trigger name past) (declared_events past) event no_event None declared in
      (λ i. trigger_text (map (shown_of tables) (in_order (kept i) (kept-at_place i))))
      ∙ ap trigger_text (shown-in_order name past tables at_place (snapshot_trigger_of name at_place past) (hists_of name at_place past) (tables-at_place there))
      ∙ sym (ap (λ (n : List ℕ). triggers_of_event name past (event_named n past)) (sym called) ∙ ap (triggers_of_event name past) found)

  -- and its histograms
  pub hists-at_place : event < length source.instance.now.hists
      → hist_text (map (shown_attached source.instance.now.tables) (get_or source.instance.now.hists event []))
      ≡ hists_of_event name past (event_named (name_at source.catalog.now event) past)
  hists-at_place there =
      let at_place = event_at past event in
      let tables = source.instance.now.tables in
      let found = named_at (declared_events past) event no_event is.distinct declared in
      ap (λ (attached : List AttachedHist). hist_text (map (shown_attached tables) attached)) kept-at_place
      ∙ ap hist_text (all-hists name past tables (hists_of name at_place past) (tables-at_place there))
      ∙ sym (ap (λ (n : List ℕ). hists_of_event name past (event_named n past)) (sym called) ∙ ap (hists_of_event name past) found)

-- the spare, if there is one, has the shape that the configuration says
pub spare-shape : (g : Config) (spare : Option Seen) → IfSome spare (HasShape g) → SpareHasShape g.pages g.page_bytes spare
spare-shape g None shape = tt
spare-shape g (Some side) shape = (shape.pages, shape.page_bytes)
