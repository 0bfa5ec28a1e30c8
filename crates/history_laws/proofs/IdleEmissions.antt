-- What an emission of an idle event changes: the clock.
use Rattle.std.proofs.Common.{◌≡◌, ℕ, ℤ, ◌+◌, ◌-◌, ◌<◌, ◌%◌, ◌==◌, Bool, true, false, not, ◌&&◌, ◌||◌, if◌then◌else◌, bytes_eq, List, [], ◌∷◌, ◌++◌, length, map, inl, inr, Option, None, Some, option_map, Result, Ok, Err, refl, sym, ap, ◌∙◌, arith, eqb-true}
use Rattle.std.specs.List.{list_any}
use Rattle.std.proofs.lemmas.Bool.{cond-false, false≢true, ltb-false, or_right}
use Rattle.std.proofs.lemmas.List.{append-nil}
use Rattle.std.proofs.lemmas.Slice.Eq.{bytes_eq-Decides}
use Rattle.hist_entries.specs.Hits.{Hit}
use Rattle.page_ring.specs.Events as ring
use Rattle.trace_buffer.specs.Families.{with_events}
use Rattle.trace_format.proofs.FieldNames.{bytes_eq-swap}
use Rattle.trace_format.specs.Cells.{Cells}
use Rattle.trace_format.specs.Definitions.{Definition}
use Rattle.trace_format.specs.Rows.{row_of}
use Rattle.trace_format.specs.declared.bad_row.BadRow.{BadRow}
use Rattle.trace_format.specs.declared.pair.Pair.{Pair}
use Rattle.trace_hist.specs.Groups.{grouped}
use Rattle.trace_command.specs.Requests.{Request, Emission}
use Rattle.trace_command.specs.declared.command.Config.{Config}
use Rattle.tracer_specification.specs.Emissions.{Emitted, emitted, emitted_bytes, emitted_event, emitted_row, filter_holds, is_recorded}
use Rattle.tracer_specification.specs.HistTriggers.{HistTrigger, counted_by, hist_triggers, hists_of, hits_of, is_of, is_paused}
use Rattle.tracer_specification.specs.Rings.{rings_after, rings_of_side, spare_after, with_emitted}
use Rattle.tracer_specification.specs.Settings.{NumberedEvent, declared_events, event_named, filter_of, instance_names, is_enabled, is_there, is_tracing, now_of, overwrites}
use Rattle.tracer_specification.specs.Snapshots.{exchange_count, is_exchanged_by, live_side}
use Rattle.tracer_specification.specs.Triggers.{Trigger, acts, is_left, met_by, passes, snapshot_trigger_of, times_left}
use Rattle.tracer_specification.proofs.Members.{IsIn, both-false, filter-in, not-true}
use Rattle.tracer_specification.proofs.TableSteps.{counted-rows, nothing-counted, rows-none}
use Rattle.tracer_specification.proofs.Triggered.{number-before, times_left-less, times_left-same}
use Rattle.tracer_specification.specs.IdleEvents.{has_active_hist, has_times_left, instances, is_idle, records, wants}
use Rattle.history_laws.specs.IdleEmissions.{IdleIsWantedByNone, IsUnchanged, OnlyTicks}
use Rattle.history_laws.proofs.TriggerConditions.{named-itself}

-- ---- no instance that is there wants an idle event

-- a test that fails for each name fails for one of them
none-named : (test : Option (List ℕ) → Bool) (names : List (List ℕ)) (name : List ℕ) → list_any test (map (λ (n : List ℕ). Some n) names) ≡ false
    → list_any (bytes_eq name) names ≡ true → test (Some name) ≡ false
none-named test [] name none there = absurd (false≢true there)
none-named test (other ∷ names) name none there =
    let both = both-false (test (Some other)) (list_any test (map (λ (n : List ℕ). Some n) names)) none in
    by (bytes_eq name other) refl both.0 (none-named test names name both.1) there
  where
    by : (same : Bool) → bytes_eq name other ≡ same → test (Some other) ≡ false → (list_any (bytes_eq name) names ≡ true → test (Some name) ≡ false)
        → (same || list_any (bytes_eq name) names) ≡ true → test (Some name) ≡ false
    by true is fails rest here = ap (λ (n : List ℕ). test (Some n)) ((bytes_eq-Decides name other).0 is) ∙ fails
    by false is fails rest here = rest here

-- what fails for each instance that is there fails for each name
none-of : (test : Option (List ℕ) → Bool) (names : List (List ℕ))
    → ((name : List ℕ) → list_any (bytes_eq name) names ≡ true → test (Some name) ≡ false) → list_any test (map (λ (n : List ℕ). Some n) names) ≡ false
none-of test [] fails = refl
none-of test (name ∷ names) fails =
    let itself : bytes_eq name name ≡ true = (bytes_eq-Decides name name).1 refl in
    rw (fails name (ap (λ (b : Bool). b || list_any (bytes_eq name) names) itself))
    (none-of test names (λ n there. fails n (or_right (bytes_eq n name) (list_any (bytes_eq n) names) there)))

module _ (past : List Request) (event : Definition) where
  abbrev test : Option (List ℕ) → Bool
  test instance = wants instance event past

  abbrev made : List (Option (List ℕ))
  made = map (λ (n : List ℕ). Some n) (instance_names past)

  pub unwanted : is_idle event past ≡ true → (instance : Option (List ℕ)) → is_there instance past ≡ true → wants instance event past ≡ false
  unwanted idle instance there = by instance there
    where
      none : (test None ≡ false) × (list_any test made ≡ false)
      none = both-false (test None) (list_any test made) (not-true (list_any test (instances past)) idle)

      by : (i : Option (List ℕ)) → is_there i past ≡ true → wants i event past ≡ false
      by None is = none.0
      by (Some name) is = none-named test (instance_names past) name none.1 is

  idle-unwanted : ((instance : Option (List ℕ)) → is_there instance past ≡ true → wants instance event past ≡ false) → is_idle event past ≡ true
  idle-unwanted none =
      let top : test None ≡ false = none None refl in
      let rest : list_any test made ≡ false = none-of test (instance_names past) (λ name. none (Some name)) in
      ap (λ (b : Bool). not (b || list_any test made)) top ∙ ap not rest

pub idle_is_wanted_by_none : IdleIsWantedByNone
idle_is_wanted_by_none past event = (unwanted past event, idle-unwanted past event)

-- ---- triggers

-- a test of triggers that fails for all fails for each
none-in : (test : HistTrigger → Bool) (hists : List HistTrigger) (t : HistTrigger) → list_any test hists ≡ false → IsIn t hists → test t ≡ false
none-in test [] t none there = absurd there
none-in test (u ∷ hists) t none (inl same) = ap test (sym same) ∙ (both-false (test u) (list_any test hists) none).0
none-in test (u ∷ hists) t none (inr there) = none-in test hists t (both-false (test u) (list_any test hists) none).1 there

not-false-true : (b : Bool) → not b ≡ false → b ≡ true
not-false-true true is = refl
not-false-true false is = absurd (false≢true (sym is))

-- no times left are none less
spent : (times : Option ℕ) → is_left times ≡ false → option_map (λ (n : ℕ). n - 1) times ≡ times
spent None is = absurd (false≢true (sym is))
spent (Some n) is = ap Some (let le = ltb-false 0 n is in omega (arith, le))

-- events that were declared and have one name are one event
same-named : (past : List Request) (name other : List ℕ) (k j : NumberedEvent) → event_named name past ≡ Some k → event_named other past ≡ Some j
    → j.event.name ≡ k.event.name → j ≡ k
same-named past name other k j is also names =
    let one : other ≡ name = named-itself other past j also ∙ names ∙ sym (named-itself name past k is) in
    let both : Some j ≡ Some k = sym also ∙ ap (λ (n : List ℕ). event_named n past) one ∙ is in
    cc

-- ---- the emission

module _ (past : List Request) (name : List ℕ) (cpu : ℕ) (pid : ℤ) (pairs : List Pair) (k : NumberedEvent) (declared : event_named name past ≡ Some k) where
  abbrev emission : Request
  emission = Emission name cpu pid pairs

  abbrev after : List Request
  after = emission ∷ past

  abbrev row : Result Cells BadRow
  row = row_of k.event pairs

  -- what it brings, if its row is one of the event
  abbrev brought : Result Cells BadRow → Option Emitted
  brought cells = emitted_row (now_of past + 1) cpu pid k cells

  abbrev with_row : Cells → Emitted
  with_row cells = record { k = k; row = cells; cpu = cpu; pid = pid; timestamp = now_of past + 1 }

  brings : emitted past emission ≡ brought row
  brings = ap (emitted_event (now_of past + 1) cpu pid pairs) declared

  -- ---- the sides of an instance

  unwritten : (instance : Option (List ℕ)) → records instance k.event past ≡ false → (cells : Cells) → is_recorded instance past (with_row cells) ≡ false
  unwritten instance off cells =
      by (is_tracing instance past) (is_enabled instance k.event.name past)
      (filter_holds k.event (filter_of instance k.event.name past) cells cpu pid) off
    where
      by : (tracing enabled holds : Bool) → (tracing && enabled) ≡ false → (tracing && (enabled && holds)) ≡ false
      by true true holds is = absurd (false≢true (sym is))
      by true false holds is = refl
      by false enabled holds is = refl

  unrecorded : (instance : Option (List ℕ)) → records instance k.event past ≡ false → (cells : Result Cells BadRow) (family : List (List ring.Event))
      → with_emitted instance past (brought cells) family ≡ family
  unrecorded instance off (Err bad) family = refl
  unrecorded instance off (Ok cells) family =
      let e = with_row cells in
      cond-false _ (with_events cpu (ring.Put (emitted_bytes e) (overwrites instance past) ∷ []) family) family (unwritten instance off cells)

  sides-same : (g : Config) (instance : Option (List ℕ)) (side : ℕ) → records instance k.event past ≡ false
      → rings_of_side g instance side after ≡ rings_of_side g instance side past
  sides-same g instance side off = by (side == live_side instance past)
    where
      family : List (List ring.Event)
      family = rings_of_side g instance side past

      by : (live : Bool) → (if live then rings_after g instance past emission family else spare_after g instance emission family) ≡ family
      by true = ap (λ (o : Option Emitted). with_emitted instance past o family) brings ∙ unrecorded instance off row family
      by false = refl

  unexchanged : (instance : Option (List ℕ)) → has_times_left k.event (snapshot_trigger_of instance k.event past) past ≡ false
      → (cells : Result Cells BadRow) → is_exchanged_by instance past (brought cells) ≡ false
  unexchanged instance none (Err bad) = refl
  unexchanged instance none (Ok cells) = by (snapshot_trigger_of instance k.event past) none
    where
      by : (t : Option Trigger) → has_times_left k.event t past ≡ false → acts past (with_row cells) t ≡ false
      by None is = refl
      by (Some t) is = ap (λ (b : Bool). b && passes t.spec.filter (with_row cells)) is

  count-same : (instance : Option (List ℕ)) → has_times_left k.event (snapshot_trigger_of instance k.event past) past ≡ false
      → exchange_count instance after ≡ exchange_count instance past
  count-same instance none =
      let stays : exchange_count instance past + 0 ≡ exchange_count instance past = omega arith in
      ap (λ (b : Bool). exchange_count instance past + (if b then 1 else 0)) (ap (is_exchanged_by instance past) brings ∙ unexchanged instance none row) ∙ stays

  -- ---- triggers

  times-same : (instance : Option (List ℕ)) (other : List ℕ) (j : NumberedEvent) (t : Trigger)
      → has_times_left k.event (snapshot_trigger_of instance k.event past) past ≡ false → event_named other past ≡ Some j
      → snapshot_trigger_of instance j.event past ≡ Some t → times_left j.event t after ≡ times_left j.event t past
  times-same instance other j t none also attached = of_row row brings
    where
      before : t.number < length past
      before = number-before instance j.event past t attached

      -- it has none left if it is the event's that is emitted
      own : bytes_eq j.event.name k.event.name ≡ true → is_left (times_left j.event t past) ≡ false
      own is =
          let same = same-named past name other k j declared also ((bytes_eq-Decides j.event.name k.event.name).0 is) in
          sym (ap (λ (o : Option Trigger). has_times_left j.event o past) attached)
          ∙ ap (λ (i : NumberedEvent). has_times_left i.event (snapshot_trigger_of instance i.event past) past) same ∙ none

      by : (cells : Cells) (named holds : Bool) → bytes_eq j.event.name k.event.name ≡ named
          → met_by j.event t.spec.filter (emitted past emission) ≡ (if named && holds then with_row cells ∷ [] else [])
          → times_left j.event t after ≡ times_left j.event t past
      by cells true true is met =
          times_left-less j.event t past emission (with_row cells) before met ∙ spent (times_left j.event t past) (own is)
      by cells true false is met = times_left-same j.event t past emission before met
      by cells false holds is met = times_left-same j.event t past emission before met

      of_row : (cells : Result Cells BadRow) → emitted past emission ≡ brought cells → times_left j.event t after ≡ times_left j.event t past
      of_row (Err bad) is = times_left-same j.event t past emission before (ap (met_by j.event t.spec.filter) is)
      of_row (Ok cells) is =
          by cells (bytes_eq j.event.name k.event.name) (passes t.spec.filter (with_row cells)) refl (ap (met_by j.event t.spec.filter) is)

  uncounted : (instance : Option (List ℕ)) (table : ℕ) → has_active_hist instance k.event past ≡ false → (cells : Result Cells BadRow)
      → counted_by table (is_paused instance table past) (hist_triggers instance past) (brought cells) ≡ []
  uncounted instance table none (Err bad) = nothing-counted table (is_paused instance table past) (hist_triggers instance past)
  uncounted instance table none (Ok cells) = by (is_paused instance table past) refl
    where
      hists : List HistTrigger
      hists = hist_triggers instance past

      paused : (t : HistTrigger) → IsIn t hists → bytes_eq t.event.name k.event.name ≡ true → is_paused instance t.table past ≡ true
      paused t there is =
          let own : is_of k.event t ≡ true = bytes_eq-swap k.event.name t.event.name ∙ is in
          not-false-true (is_paused instance t.table past)
          (none-in (λ u. not (is_paused instance u.table past)) (hists_of instance k.event past) t none (filter-in t (is_of k.event) hists there own))

      apart : (t : HistTrigger) → IsIn t hists → is_paused instance table past ≡ false → (same named holds : Bool) → (t.table == table) ≡ same
          → bytes_eq t.event.name k.event.name ≡ named → (same && (named && holds)) ≡ false
      apart t there on true true holds same is =
          let one : t.table ≡ table = eqb-true t.table table same in
          absurd (false≢true (sym on ∙ ap (λ (n : ℕ). is_paused instance n past) (sym one) ∙ paused t there is))
      apart t there on true false holds same is = refl
      apart t there on false named holds same is = refl

      by : (b : Bool) → is_paused instance table past ≡ b → counted_by table b hists (Some (with_row cells)) ≡ []
      by true is = refl
      by false is =
          counted-rows table hists (Some (with_row cells))
          ∙ rows-none (λ t. t.table == table) (with_row cells) hists
          (λ t there. apart t there is (t.table == table) (bytes_eq t.event.name k.event.name) (passes t.spec.filter (with_row cells)) refl refl)

  hits-same : (instance : Option (List ℕ)) (table : ℕ) → has_active_hist instance k.event past ≡ false
      → hits_of instance table after ≡ hits_of instance table past
  hits-same instance table none =
      let older = hits_of instance table past in
      ap (λ (o : Option Emitted). older ++ counted_by table (is_paused instance table past) (hist_triggers instance past) o) brings
      ∙ ap (λ (rows : List Hit). older ++ rows) (uncounted instance table none row)
      ∙ append-nil older

  -- ---- all of an instance

  pub unchanged : is_idle k.event past ≡ true → (instance : Option (List ℕ)) → is_there instance past ≡ true → IsUnchanged instance past after
  unchanged idle instance there =
      let none_wants = unwanted past k.event idle instance there in
      let off = both-false (records instance k.event past)
      (has_active_hist instance k.event past || has_times_left k.event (snapshot_trigger_of instance k.event past) past) none_wants in
      let none = both-false (has_active_hist instance k.event past) (has_times_left k.event (snapshot_trigger_of instance k.event past) past) off.1 in
      record {
        tracing = refl;
        enabled = λ other. refl;
        filters = λ other. refl;
        overwriting = refl;
        sides = λ g side. sides-same g instance side off.0;
        live = ap (λ (n : ℕ). n % 2) (count-same instance none.1);
        spare = refl;
        snapshot_triggers = λ event. refl;
        times = λ other j t. times-same instance other j t none.1;
        hists = refl;
        paused = λ table. refl;
        hits = λ table. hits-same instance table none.0;
        tables = λ t. ap (grouped t.spec) (hits-same instance t.table none.0);
      }

-- it changes the clock alone
pub ticks-once : (past : List Request) (name : List ℕ) (cpu : ℕ) (pid : ℤ) (pairs : List Pair) (k : NumberedEvent) → event_named name past ≡ Some k
    → is_idle k.event past ≡ true → OnlyTicks 1 past (Emission name cpu pid pairs ∷ past)
ticks-once past name cpu pid pairs k declared idle = record {
  now = refl;
  events = append-nil (declared_events past);
  names = append-nil (instance_names past);
  each = unchanged past name cpu pid pairs k declared idle;
}
