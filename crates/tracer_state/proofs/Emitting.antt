-- What an emission that is prepared leaves of the instances is what the requests say of it.
use Rattle.std.proofs.Common.{◌≡◌, ℕ, ℤ, ◌+◌, ◌<◌, ◌≤◌, Bool, true, false, ◌&&◌, List, [], ◌++◌, length, take, drop, get_or, All, Option, Some, None, Result, Ok, Err, refl, sym, ap, ◌∙◌, subst, arith}
use Rattle.std.proofs.Math.Seq.{take-append_seam}
use Rattle.std.specs.List.{AllByRecursion}
use Rattle.std.specs.Option.{option_map}
use Rattle.std.proofs.lemmas.List.{get_or-map}
use Rattle.std.proofs.lemmas.Bool.{false≢true, lt-ltb}
use Rattle.trace_filter.specs.Filters.{Parsed, parsed_of}
use Rattle.std.specs.Result.{result_map_both}
use Rattle.trace_format.specs.declared.bad_row.BadRow.{BadRow}
use Rattle.trace_format.specs.Cells.{Cells, record_size_of}
use Rattle.trace_format.specs.Definitions.{Definition}
use Rattle.trace_format.specs.Rows.{row_of}
use Rattle.trace_format.specs.declared.pair.Pair.{Pair}
use Rattle.trace_command.specs.Refusals.{IsFoundEarly}
use Rattle.trace_command.specs.Requests.{Request, Emission}
use Rattle.trace_command.specs.declared.command.Config.{Config}
use Rattle.trace_command.specs.declared.command.Reply.TheVariants as reply
use Rattle.trace_command.specs.declared.refusal.Refusal.TheVariants as refusal
use Rattle.tracer_specification.specs.Declarations.{IsFit, IsIndexOf}
use Rattle.tracer_specification.specs.Settings.{NumberedEvent, declared_events, event_named, event_named_in, filter_of, is_enabled, kept_filter, now_of}
use Rattle.tracer_specification.specs.Emissions.{Emitted, filter_holds, is_recorded}
use Rattle.tracer_specification.specs.HistTriggers.{counted_row}
use Rattle.tracer_specification.specs.History.{emission_answer}
use Rattle.tracer_specification.specs.Snapshots.{is_exchanged_by}
use Rattle.tracer_specification.specs.Triggers as triggers
use Rattle.tracer_specification.specs.Triggers.{acts, is_left, passes, times_left, snapshot_trigger_of}
use Rattle.trace_instance.specs.Instances.{InstanceSeen, InstanceStandsFor, IsAlike, kept_as}
use Rattle.trace_instance.specs.Rows.{snapshot_fires, kept_acts, kept_holds, records}
use Rattle.trace_instance.specs.KeptHists.{passed}
use Rattle.trace_instance.specs.declared.hists.AttachedHist.{AttachedHist}
use Rattle.tracer_state.specs.States.{AllReached, CanEmit, EachCame, IsEmission, IsPreparedEmission, IsUsable, StandsFor, reach_at, IsStateAlike}
use Rattle.trace_instance.specs.Deliveries as deliveries
use Rattle.trace_instance.specs.Deliveries.{CanCountRow, IsWritable}
use Rattle.tracer_state.specs.private.Emissions.{HasEventAt, IsReserved}
use Rattle.tracer_state.specs.private.Found.{numbered}
use Rattle.trace_instance.specs.declared.change.Delivery.{Delivery}
use Rattle.trace_instance.specs.declared.change.Reach.{Reach}
use Rattle.tracer_state.specs.declared.resolve.Found.{Found}
use Rattle.tracer_state.specs.declared.state.Named.{Named}
use Rattle.tracer_state.specs.declared.state.State.{State}
use Rattle.trace_instance.specs.declared.trigger.AttachedSnapshot.{AttachedSnapshot}
use Rattle.trace_instance.proofs.Delivered.{can-fire, self, trigger-at}
use Rattle.trace_instance.proofs.KeptLists.{recursion_at}
use Rattle.tracer_state.proofs.Alike.{state_alike-stands}

-- what is written over all of a vector's elements
pub written-over : {X : Type 0} (n : ℕ) (out rest : List X) → length out ≡ n → take n (out ++ rest) ≡ out
written-over n out rest is = subst (λ (k : ℕ). take k (out ++ rest) ≡ out) is (take-append_seam out rest)

-- ---- an event that was found

-- an event that was found among those of the state is the one that the requests declared
pub named-found : (g : Config) (state : State) (past : List Request) (name : List ℕ) (found : Found) → StandsFor g state past
    → Some (numbered found) ≡ event_named_in state.catalog name → event_named name past ≡ Some (numbered found)
named-found g state past name found stands named = rw (← stands.events) (sym named)

-- the truth of a kept filter is that of the filter's text
kept-holds : (event : Definition) (filter : Option (List ℕ)) (row : Cells) (cpu : ℕ) (pid : ℤ)
    → kept_holds (option_map (parsed_of event) filter) (record { values = row.values; cpu = cpu; pid = pid }) ≡ filter_holds event filter row cpu pid
unfolding kept_holds filter_holds
kept-holds event None row cpu pid = refl
kept-holds event (Some text) row cpu pid = refl

-- a kept trigger acts as the one that the requests attached
acts-kept : (past : List Request) (e : Emitted) (t : Option triggers.Trigger)
    → kept_acts (option_map (kept_as past e.k.event) t) (counted_row e) ≡ acts past e t
unfolding kept_holds
acts-kept past e None = refl
acts-kept past e (Some t) = by t.spec.filter
  where
    by : (filter : Option Parsed) → (is_left (times_left e.k.event t past) && kept_holds filter (counted_row e))
        ≡ (is_left (times_left e.k.event t past) && passes filter e)
    by None = refl
    by (Some f) = refl

-- an emission of an event at an index, and an instance that stands for its requests
module _ (g : Config) (name : Option (List ℕ)) (past : List Request) (i : InstanceSeen) (e : Emitted) (index : ℕ) (stands : InstanceStandsFor g name past i)
    (indexed : IsIndexOf (declared_events past) e.k.event.name index e.k.event) where
  -- the event's switch and its filter are those that the requests set, so the emission is recorded if they say so
  records-found : records i index (counted_row e) ≡ is_recorded name past e
  records-found =
      let switched : Definition → Bool = λ event. is_enabled name event.name past in
      let enabled : get_or i.enabled index false ≡ is_enabled name e.k.event.name past = rw stands.enabled
      (get_or-map switched (declared_events past) index e.k.event false indexed.inside ∙ ap switched (sym indexed.there)) in
      let kept : get_or i.filters index None ≡ kept_filter name past e.k.event = rw stands.filters
      (get_or-map (kept_filter name past) (declared_events past) index e.k.event None indexed.inside ∙ ap (kept_filter name past) (sym indexed.there)) in
      let holds = ap (λ (k : Option Parsed). kept_holds k (counted_row e)) kept
      ∙ kept-holds e.k.event (filter_of name e.k.event.name past) e.row e.cpu e.pid in
      let tracing = stands.tracing in
      rw (tracing, enabled, holds) refl

  -- and its trigger acts if they say so
  snapshot_fires-found : snapshot_fires i index (counted_row e) ≡ is_exchanged_by name past (Some e)
  snapshot_fires-found =
      ap (λ (t : Option AttachedSnapshot). kept_acts t (counted_row e)) (trigger-at name past i.triggers e.k.event.name index e.k.event stands.triggers indexed)
      ∙ acts-kept past e (snapshot_trigger_of name e.k.event past)

-- ---- what is prepared

-- an emission is done where its CPU and its event are there and its row is right
pub answers-emission : (g : Config) (past : List Request) (name : List ℕ) (cpu : ℕ) (pairs : List Pair) (k : NumberedEvent) (row : Cells) → cpu < g.cpus
    → event_named name past ≡ Some k → row_of k.event pairs ≡ Ok row → emission_answer g past name cpu pairs ≡ Ok reply.Done
unfolding emission_answer
answers-emission g past name cpu pairs k row inside there built = rw (lt-ltb cpu g.cpus inside, there, built) refl

-- one that is refused where its CPU and its event are there is not refused early
pub found-late : (g : Config) (past : List Request) (name : List ℕ) (cpu : ℕ) (pairs : List Pair) (k : NumberedEvent) → cpu < g.cpus
    → event_named name past ≡ Some k → IsFoundEarly (emission_answer g past name cpu pairs) → ⊥
unfolding emission_answer
found-late g past name cpu pairs k inside there early = by (row_of k.event pairs) (rw (lt-ltb cpu g.cpus inside, there) at early)
  where
    by : (row : Result Cells BadRow) → IsFoundEarly (result_map_both (λ (row : Cells). reply.Done) refusal.BadRow row) → ⊥
    by (Ok row) late = late
    by (Err bad) late = false≢true late

-- where an instance records it, some instance does
recorded-at : (instances : List Named) (reaches : List Reach) (recorded : Bool) (k : ℕ)
    → (recorded ≡ false → AllReached (λ reach i. reach.records ≡ false) reaches instances) → k < length instances → (n : Named)
    → (reach_at reaches k).records ≡ true → recorded ≡ true
recorded-at instances reaches true k none inside n on = refl
recorded-at instances reaches false k none inside n on = absurd (false≢true (sym (none refl k n inside) ∙ on))

-- what holds of each event holds of the one at an index
fit-at : (page_bytes : ℕ) (events : List Definition) (name : List ℕ) (index : ℕ) (event : Definition) → AllByRecursion (IsFit page_bytes) events
    → IsIndexOf events name index event → IsFit page_bytes event
fit-at page_bytes events name index event fit indexed =
    subst (IsFit page_bytes) (sym indexed.there) (recursion_at (IsFit page_bytes) events index event fit indexed.inside)

-- each instance of a usable state has each event
pub has-event : (g : Config) (state : State) (index : ℕ) → IsUsable g state → index < length state.catalog
    → All (λ (n : Named). HasEventAt index n.instance) state.instances.items
has-event g state index usable inside = λ k d within.
    let i = usable.each k d within in
    let hists : index < length (get_or state.instances.items k d).instance.hists = omega (arith, i.hists, inside) in record {
      enabled = omega (arith, i.enabled, inside);
      filters = omega (arith, i.filters, inside);
      triggers = omega (arith, i.triggers, inside);
      hists = hists;
      agree = i.agree index [] hists;
    }

-- an emission of an event that was found, for whose row all was reserved
module _ (g : Config) (old new : State) (past : List Request) (name : List ℕ) (pairs : List Pair) (found : Found) (d : Delivery) (stands : StandsFor g old past)
    (alike : IsStateAlike old new) (reserved : IsReserved old.clock found.event.now old.instances.items new.instances.items d) where
  within : (k : ℕ) → k < length new.instances.items → k < length old.instances.items
  within k inside = omega (arith, inside, alike.instances.many)

  -- what is written ahead is its record
  is-emission : d.event ≡ found.index → Some (numbered found) ≡ event_named_in old.catalog name
      → IsIndexOf old.catalog name found.index found.event.now → row_of found.event.now pairs ≡ Ok d.row
      → IsEmission g past (Emission name d.cpu d.pid pairs) new.instances.items d
  is-emission at named indexed built = record {
    declares = refl;
    made = refl;
    removed = refl;
    ticks = refl;
    e = e;
    emitted = rw (there, built) refl;
    index = own;
    row = refl;
    cpu = refl;
    pid = refl;
    records = λ k n inside.
        let was = get_or old.instances.items k n in
        let named_so = alike.instances.names k n (within k inside) in
        rw named_so (ap (λ (r : Reach). r.records) (reserved.reached.each k n (within k inside))
        ∙ records-found g was.name past was.instance e d.event (stands.each k n (within k inside)) own);
    snapshot_fires = λ k n inside.
        let was = get_or old.instances.items k n in
        let named_so = alike.instances.names k n (within k inside) in
        rw named_so (ap (λ (r : Reach). r.snapshot_fires) (reserved.reached.each k n (within k inside))
        ∙ snapshot_fires-found g was.name past was.instance e d.event (stands.each k n (within k inside)) own);
    bytes = λ k n inside on. rw (← stands.clock, ← at)
        (reserved.ahead.is (recorded-at old.instances.items d.reaches reserved.recorded k reserved.reached.none (within k inside) n on));
  }
    where
      e : Emitted
      e = record { k = numbered found; row = d.row; cpu = d.cpu; pid = d.pid; timestamp = now_of past + 1 }

      there : event_named name past ≡ Some (numbered found)
      there = named-found g old past name found stands named

      declared : IsIndexOf (declared_events past) name d.event found.event.now
      declared = rw (at, ← stands.events) indexed

      own : IsIndexOf (declared_events past) found.event.now.name d.event found.event.now
      own = record { inside = declared.inside; there = declared.there; named = self found.event.now.name }

  -- and all is there for it
  ready-emission : (request : Request) → IsEmission g past request new.instances.items d → d.cpu < g.cpus
      → record_size_of found.event.now ≤ g.page_bytes → CanEmit new d
  ready-emission request emission inside short =
      let still = state_alike-stands g old new past alike stands in
      let same : (k : ℕ) (n : Named) → k < length new.instances.items
      → (get_or new.instances.items k n).instance.hists ≡ (get_or old.instances.items k n).instance.hists =
      λ k n there. ap (λ (i : InstanceSeen). i.hists) (alike.instances.came k n (within k there)).rest in (
        rw still.events emission.index.inside,
        λ k n there on.
            let did = recorded-at old.instances.items d.reaches reserved.recorded k reserved.reached.none (within k there) n on in
            let shaped = (still.each k n there).shaped.live in
            (reserved.ahead.is_record did, omega (arith, reserved.sized did, short, shaped.page_bytes), omega (arith, inside, shaped.cpus)),
        λ k n there.
            can-fire g (get_or new.instances.items k n).name past emission.e d.event (reach_at d.reaches k) (get_or new.instances.items k n).instance
            (still.each k n there) emission.index (emission.snapshot_fires k n there),
        λ k n there off.
            let nothing = reserved.idle k n (within k there) off in
            (nothing.0, nothing.1, ap (λ (hists : List (List AttachedHist)). get_or hists d.event []) (same k n there) ∙ nothing.2),
        λ k n there. reserved.passed k n (within k there)
            ∙ ap (λ (hists : List (List AttachedHist)). passed (deliveries.row_of d) (get_or hists d.event [])) (sym (same k n there)),
        reserved.counted,
      )

-- a state with these instances written over its own, which are as many
abbrev pub with_instances : (old : State) (instances : List Named) → length instances ≡ old.instances.len → State
with_instances old instances many =
    let out = take old.instances.len (instances ++ drop (length instances) old.instances.items) in
    let over : out ≡ instances = written-over old.instances.len instances (drop (length instances) old.instances.items) many in
    record old { instances = record old.instances { items = out; ok = (sym (ap (λ (is : List Named). length is) over ∙ many), old.instances.ok.1) } }

-- so what was reserved for a row is the emission of the pairs that give the row
pub prepared-emission : (g : Config) (old : State) (past : List Request) (name : List ℕ) (cpu : ℕ) (pid : ℤ) (pairs : List Pair) (found : Found)
    (row : Cells) (d : Delivery) (instances : List Named) (many : length instances ≡ old.instances.len) → IsUsable g old → StandsFor g old past
    → EachCame IsAlike old.instances.items instances → Some (numbered found) ≡ event_named_in old.catalog name
    → IsIndexOf old.catalog name found.index found.event.now → cpu < g.cpus → row_of found.event.now pairs ≡ Ok row
    → d ≡ record d { event = found.index; row = row; cpu = cpu; pid = pid }
    → IsReserved old.clock found.event.now old.instances.items instances d
    → IsPreparedEmission g past (Emission name cpu pid pairs) (with_instances old instances many) d
prepared-emission g old past name cpu pid pairs found row d instances many usable stands came named indexed inside built given reserved =
    subst (λ (r : Request). IsPreparedEmission g past r new d) (ap (λ (e : Delivery). Emission name e.cpu e.pid pairs) given) (
      answers-emission g past name d.cpu pairs (numbered found) d.row within_cpus (named-found g old past name found stands named) exact,
      emission,
      ready-emission g old new past name pairs found d stands alike kept (Emission name d.cpu d.pid pairs) emission within_cpus
          (fit-at g.page_bytes old.catalog name found.index found.event.now usable.fit indexed).size,
    )
  where
    new : State
    new = with_instances old instances many

    over : new.instances.items ≡ instances
    over = written-over old.instances.len instances (drop (length instances) old.instances.items) many

    alike : IsStateAlike old new
    alike = record { catalog = refl; clock = refl; instances = rw over came; plans = refl }

    kept : IsReserved old.clock found.event.now old.instances.items new.instances.items d
    kept = rw over reserved

    within_cpus : d.cpu < g.cpus
    within_cpus = omega (arith, inside, ap (λ (e : Delivery). e.cpu) given)

    exact : row_of found.event.now pairs ≡ Ok d.row
    exact = built ∙ ap (λ (e : Delivery). Ok e.row) (sym given)

    emission : IsEmission g past (Emission name d.cpu d.pid pairs) new.instances.items d
    emission = is-emission g old new past name pairs found d stands alike kept (ap (λ (e : Delivery). e.event) given) named indexed exact
