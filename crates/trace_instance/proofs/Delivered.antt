-- What an emission that reached an instance leaves of it: its triggers, and its two sides.
use Rattle.std.proofs.Common.{◌≡◌, ℕ, zero, suc, ℤ, ◌+◌, ◌-◌, ◌<◌, Bool, true, false, ◌&&◌, if◌then◌else◌, List, [], ◌∷◌, length, map, get_or, set, is_some, replicate, Option, Some, None, refl, sym, ap, ◌∙◌, subst, arith, append-nil}
use Rattle.std.proofs.Math.Bool.{and-true}
use Rattle.std.proofs.lemmas.Bool.{and_parts, false_from_ne_true, false≢true, lt-ltb}
use Rattle.std.proofs.lemmas.List.{get_or-map, set-get_or}
use Rattle.std.proofs.lemmas.List.Folds.{list_any_at}
use Rattle.std.proofs.lemmas.Slice.Eq.{bytes_eq-Decides}
use Rattle.std.specs.Option.{option_map}
use Rattle.std.specs.Str.{bytes_eq}
use Rattle.page_ring.specs.Events as ring
use Rattle.trace_buffer.specs.Buffers as buffers
use Rattle.trace_snapshot.specs.Sides as snapshot
use Rattle.trace_snapshot.specs.Sides.{SideFamilies, SpareStandsFor, exchanged}
use Rattle.trace_format.specs.Catalogs.{AreEvents}
use Rattle.trace_format.specs.Definitions.{Definition}
use Rattle.trace_format.specs.declared.pair.Pair.{Pair}
use Rattle.trace_command.specs.Requests.{Request, Emission}
use Rattle.trace_command.specs.declared.command.Config.{Config}
use Rattle.tracer_specification.specs.Declarations.{IsIndexOf}
use Rattle.tracer_specification.specs.Emissions.{Emitted, emitted, emitted_bytes, is_recorded}
use Rattle.tracer_specification.specs.Rings.{other_rings, rings, spare_rings, with_emitted}
use Rattle.tracer_specification.specs.Settings.{declared_events, overwrites}
use Rattle.tracer_specification.specs.Snapshots.{has_spare, is_exchanged_by}
use Rattle.tracer_specification.specs.Triggers as triggers
use Rattle.tracer_specification.specs.Triggers.{is_left, met_by, passes, times_left, snapshot_trigger_of}
use Rattle.tracer_specification.proofs.EventLists.{map-set, one_index}
use Rattle.tracer_specification.proofs.Sides.{rings-exchanged, rings-stay}
use Rattle.tracer_specification.proofs.Triggered.{number-before, times_left-less, times_left-same}
use Rattle.trace_format.specs.Operands.{Emission as Row}
use Rattle.tracer_specification.specs.HistTriggers.{counted_row}
use Rattle.trace_instance.specs.Instances.{InstanceSeen, InstanceStandsFor, IsSpared, WereOffered, kept_as, kept_trigger, side_families}
use Rattle.hist_entries.specs.Hits.{Hit}
use Rattle.trace_instance.specs.KeptHists.{AreHit, IsHitIf, KeptTable, TableStandsFor, is_used, kept_at, kept_hists}
use Rattle.trace_instance.specs.Deliveries.{CanFire, IsDelivered, counted_down, recorded_in, row_of}
use Rattle.trace_instance.proofs.Calm.{kept-as_left, same_families}
use Rattle.trace_instance.proofs.HistSteps.{KeepsHists, fitting-calm}
use Rattle.trace_instance.proofs.KeptLists.{AllOfEach}
use Rattle.trace_instance.proofs.TableStands.{table-hit}
use Rattle.trace_instance.specs.declared.change.Delivery.{Delivery}
use Rattle.trace_instance.specs.declared.change.Reach.{Reach}
use Rattle.trace_instance.specs.declared.trigger.AttachedSnapshot.{AttachedSnapshot}

-- ---- triggers

pub self : (name : List ℕ) → bytes_eq name name ≡ true
self name = (bytes_eq-Decides name name).1 refl

-- a time less than none is none
none_left : (left : Option ℕ) → is_left left ≡ false → option_map (λ times. times - 1) left ≡ left
none_left None out = absurd (cc)
none_left (Some zero) out = refl
none_left (Some (suc n)) out = absurd (false≢true (sym out ∙ lt-ltb 0 (suc n) (omega arith)))

-- one of its event that does not make it act leaves it too: its filter does not hold, or it acts no more
idle-left : (past : List Request) (request : Request) (e : Emitted) (t : triggers.Trigger) (left : Option ℕ) (holds : Bool)
    → emitted past request ≡ Some e → t.number < length past → times_left e.k.event t past ≡ left → passes t.spec.filter e ≡ holds
    → (is_left left && holds) ≡ false → times_left e.k.event t (request ∷ past) ≡ times_left e.k.event t past
idle-left past request e t left false is before remains filter idle =
    let none : met_by e.k.event t.spec.filter (emitted past request) ≡ [] = rw (is, self e.k.event.name, filter) refl in
    times_left-same e.k.event t past request before none
idle-left past request e t left true is before remains filter idle =
    let one : met_by e.k.event t.spec.filter (emitted past request) ≡ e ∷ [] = rw (is, self e.k.event.name, filter) refl in
    times_left-less e.k.event t past request e before one ∙ ap (λ (o : Option ℕ). option_map (λ times. times - 1) o) remains
    ∙ none_left left (sym (and-true (is_left left)) ∙ idle) ∙ sym remains

-- no other event has the name
differs-at : (events : List Definition) (i j : ℕ) (d event : Definition) → AreEvents [] events → i < length events → event ≡ get_or events i event
    → j < length events → (j ≡ i → ⊥) → bytes_eq (get_or events j d).name event.name ≡ false
differs-at events i j d event are first there second other = false_from_ne_true (bytes_eq (get_or events j d).name event.name) (λ is.
    let e : (get_or events j d).name ≡ event.name = (bytes_eq-Decides (get_or events j d).name event.name).0 is in
    other (one_index events j i d event are second first (e ∙ ap (λ (v : Definition). v.name) there)))

-- what is kept of an event at an index
kept-at : {A : Type 0} (kept_of : Definition → A) (past : List Request) (kept : List A) (none : A) (ename : List ℕ) (index : ℕ) (event : Definition)
    → kept ≡ map kept_of (declared_events past) → IsIndexOf (declared_events past) ename index event → get_or kept index none ≡ kept_of event
kept-at kept_of past kept none ename index event are indexed =
    rw are (get_or-map kept_of (declared_events past) index event none indexed.inside ∙ ap kept_of (sym indexed.there))

-- its trigger
pub trigger-at : (name : Option (List ℕ)) (past : List Request) (kept : List (Option AttachedSnapshot)) (ename : List ℕ) (index : ℕ) (event : Definition)
    → kept ≡ map (kept_trigger name past) (declared_events past) → IsIndexOf (declared_events past) ename index event
    → get_or kept index None ≡ kept_trigger name past event
trigger-at name past kept ename index event are indexed = kept-at (kept_trigger name past) past kept None ename index event are indexed

-- ---- sides

-- an event of this index that has a trigger is one that has one
some-trigger : (name : Option (List ℕ)) (past : List Request) (e : Emitted) (o : Option triggers.Trigger) → triggers.acts past e o ≡ true → is_some o ≡ true
some-trigger name past e None acts = absurd (cc)
some-trigger name past e (Some t) acts = refl

-- so where an emission makes one act there is a spare
pub spare-there : (g : Config) (name : Option (List ℕ)) (past : List Request) (e : Emitted) (index : ℕ) → IsSpared g name (declared_events past) past
    → IsIndexOf (declared_events past) e.k.event.name index e.k.event → is_exchanged_by name past (Some e) ≡ true → has_spare name past ≡ true
spare-there g name past e index spared indexed acting =
    let test : Definition → Bool = λ event. is_some (snapshot_trigger_of name event past) in
    let some = some-trigger name past e (snapshot_trigger_of name e.k.event past) acting in
    spared.armed (list_any_at test (declared_events past) index e.k.event indexed.inside (ap test (sym indexed.there) ∙ some))

-- an instance whose sides are to be exchanged has a spare
pub can-fire : (g : Config) (name : Option (List ℕ)) (past : List Request) (e : Emitted) (index : ℕ) (reach : Reach) (i : InstanceSeen)
    → InstanceStandsFor g name past i → IsIndexOf (declared_events past) e.k.event.name index e.k.event
    → reach.snapshot_fires ≡ is_exchanged_by name past (Some e) → CanFire reach i
can-fire g name past e index reach i stands indexed snapshot_fires = λ is.
    let there : has_spare name past ≡ true = spare-there g name past e index stands.spared indexed (sym snapshot_fires ∙ is) in
    by i.sides.spare (rw there at stands.sides.spare)
  where
    by : (spare : Option buffers.Seen) → SpareStandsFor spare (Some (other_rings g name past)) → is_some spare ≡ true
    by None stood = absurd stood
    by (Some side) stood = refl

-- the live side's rings with the record
written-rings : (name : Option (List ℕ)) (past : List Request) (e : Emitted) (records overwrite : Bool) (cpu : ℕ) (bytes : List ℕ)
    (family : List (List ring.Event)) → records ≡ is_recorded name past e → overwrite ≡ overwrites name past → cpu ≡ e.cpu
    → (records ≡ true → bytes ≡ emitted_bytes e)
    → recorded_in records overwrite cpu bytes family ≡ with_emitted name past (Some e) family
written-rings name past e false overwrite cpu bytes family is over on_cpu own = rw (← is) refl
written-rings name past e true overwrite cpu bytes family is over on_cpu own =
    let same = own refl in
    rw (← is, over, on_cpu, same) refl

-- ---- what an emission leaves

module _ (name : Option (List ℕ)) (past : List Request) (ename : List ℕ) (cpu : ℕ) (pid : ℤ) (pairs : List Pair) (e : Emitted)
    (is : emitted past (Emission ename cpu pid pairs) ≡ Some e) where
  abbrev request : Request
  request = Emission ename cpu pid pairs

  -- it does not meet the trigger of another event
  other-kept : (event : Definition) → bytes_eq event.name e.k.event.name ≡ false → kept_trigger name (request ∷ past) event ≡ kept_trigger name past event
  other-kept event differ =
      kept-as_left past request event (snapshot_trigger_of name event past) (λ t there.
      let none : met_by event t.spec.filter (emitted past request) ≡ [] = rw (is, differ) refl in
      times_left-same event t past request (number-before name event past t there) none)

  -- nor does that of its own event change which it does not make act
  idle-kept : is_exchanged_by name past (Some e) ≡ false → kept_trigger name (request ∷ past) e.k.event ≡ kept_trigger name past e.k.event
  idle-kept idle =
      kept-as_left past request e.k.event (snapshot_trigger_of name e.k.event past) (λ t there.
      let no : (is_left (times_left e.k.event t past) && passes t.spec.filter e) ≡ false = rw there at idle in
      idle-left past request e t (times_left e.k.event t past) (passes t.spec.filter e) is (number-before name e.k.event past t there) refl refl no)

  -- and one that it makes act is left with one time less
  acting-kept : is_exchanged_by name past (Some e) ≡ true → kept_trigger name (request ∷ past) e.k.event ≡ counted_down (kept_trigger name past e.k.event)
  acting-kept acting = by (snapshot_trigger_of name e.k.event past) refl acting
    where
      by : (o : Option triggers.Trigger) → snapshot_trigger_of name e.k.event past ≡ o → triggers.acts past e o ≡ true
          → option_map (kept_as (request ∷ past) e.k.event) o ≡ counted_down (option_map (kept_as past e.k.event) o)
      by None there acts = refl
      by (Some t) there acts =
          let holds = (and_parts (is_left (times_left e.k.event t past)) (passes t.spec.filter e) acts).1 in
          let one : met_by e.k.event t.spec.filter (emitted past request) ≡ e ∷ [] = rw (is, self e.k.event.name, holds) refl in
          ap (λ (left : Option ℕ). Some (let kept : AttachedSnapshot = record { number = t.number; left = left; filter = t.spec.filter } in kept))
          (times_left-less e.k.event t past request e (number-before name e.k.event past t there) one)

  -- the triggers, by whether it makes its event's act
  triggers-after : (index : ℕ) (kept : List (Option AttachedSnapshot)) (snapshot_fires : Bool) → AreEvents [] (declared_events past)
      → IsIndexOf (declared_events past) e.k.event.name index e.k.event → kept ≡ map (kept_trigger name past) (declared_events past)
      → is_exchanged_by name past (Some e) ≡ snapshot_fires
      → (if snapshot_fires then set kept index (counted_down (get_or kept index None)) else kept) ≡ map (kept_trigger name (request ∷ past)) (declared_events past)
  triggers-after index kept snapshot_fires are indexed stood acts =
      let events = declared_events past in
      let here = trigger-at name past kept e.k.event.name index e.k.event stood indexed in
      at_place snapshot_fires
      ∙ ap (λ (t : Option AttachedSnapshot). set kept index (if snapshot_fires then counted_down t else t)) here
      ∙ ap (λ (l : List (Option AttachedSnapshot)). set l index own) stood
      ∙ sym (map-set (kept_trigger name past) (kept_trigger name (request ∷ past)) own events index e.k.event indexed.inside
      (ap (kept_trigger name (request ∷ past)) (sym indexed.there) ∙ own-kept snapshot_fires acts)
      (λ j inside other. other-kept (get_or events j e.k.event)
      (differs-at events index j e.k.event e.k.event are indexed.inside indexed.there inside other)))
    where
      own : Option AttachedSnapshot
      own = if snapshot_fires then counted_down (kept_trigger name past e.k.event) else kept_trigger name past e.k.event

      own-kept : (f : Bool) → is_exchanged_by name past (Some e) ≡ f → kept_trigger name (request ∷ past) e.k.event
          ≡ (if f then counted_down (kept_trigger name past e.k.event) else kept_trigger name past e.k.event)
      own-kept true acting = acting-kept acting
      own-kept false idle = idle-kept idle

      at_place : (f : Bool) → (if f then set kept index (counted_down (get_or kept index None)) else kept)
          ≡ set kept index (if f then counted_down (get_or kept index None) else get_or kept index None)
      at_place true = refl
      at_place false = sym (set-get_or kept index None)

  -- the families of both sides
  sides-after : (g : Config) (written : List (List ring.Event)) (snapshot_fires : Bool) → written ≡ with_emitted name past (Some e) (rings g name past)
      → is_exchanged_by name past (Some e) ≡ snapshot_fires → (snapshot_fires ≡ true → has_spare name past ≡ true)
      → (let f : SideFamilies = record { live = written; spare = spare_rings g name past } in if snapshot_fires then exchanged f else f)
      ≡ side_families g name (request ∷ past)
  sides-after g written false wrote stays spare =
      let after = rings-stay g name past request refl (ap (is_exchanged_by name past) is ∙ stays) in
      let live : written ≡ rings g name (request ∷ past) =
      wrote ∙ ap (λ (o : Option Emitted). with_emitted name past o (rings g name past)) (sym is) ∙ sym after.live in
      same_families (rings g name (request ∷ past)) written (has_spare name past) (has_spare name past) (other_rings g name (request ∷ past))
      (other_rings g name past) live refl (sym after.spare)
  sides-after g written true wrote flips spare =
      let after = rings-exchanged g name past request refl (ap (is_exchanged_by name past) is ∙ flips) in
      let there : has_spare name past ≡ true = spare refl in
      let other : written ≡ other_rings g name (request ∷ past) =
      wrote ∙ ap (λ (o : Option Emitted). with_emitted name past o (rings g name past)) (sym is) ∙ sym after.spare in
      rw there (same_families (rings g name (request ∷ past)) (other_rings g name past) true true (other_rings g name (request ∷ past)) written
      (sym after.live) refl other)

  -- a side that is no spare stays empty
  spared-after : (g : Config) (snapshot_fires : Bool) → is_exchanged_by name past (Some e) ≡ snapshot_fires → (snapshot_fires ≡ true → has_spare name past ≡ true)
      → IsSpared g name (declared_events past) past → IsSpared g name (declared_events past) (request ∷ past)
  spared-after g snapshot_fires by_trigger spare spared = record {
    unused = λ none. by snapshot_fires by_trigger spare none;
    armed = λ some. spared.armed some;
  }
    where
      by : (f : Bool) → is_exchanged_by name past (Some e) ≡ f → (f ≡ true → has_spare name past ≡ true) → has_spare name past ≡ false
          → other_rings g name (request ∷ past) ≡ replicate g.cpus []
      by false stays there none = (rings-stay g name past request refl (ap (is_exchanged_by name past) is ∙ stays)).spare ∙ spared.unused none
      by true flips there none = absurd (false≢true (sym none ∙ there refl))

-- ---- hist triggers

-- an emission makes no table
none-hit : (rows : Bool → List Hit) (old new : Option KeptTable) → old ≡ None → IsHitIf rows old new → new ≡ None
none-hit rows None None none hit = refl
none-hit rows None (Some new) none hit = absurd hit
none-hit rows (Some old) new none hit = absurd (cc)

-- ---- the instance

-- an emission that reached an instance leaves it as the requests say
pub delivered-stands : (g : Config) (name : Option (List ℕ)) (past : List Request) (request : Request) (e : Emitted) (d : Delivery) (reach : Reach)
    (old new : InstanceSeen) → emitted past request ≡ Some e → AreEvents [] (declared_events past) → InstanceStandsFor g name past old
    → IsIndexOf (declared_events past) e.k.event.name d.event e.k.event → reach.records ≡ is_recorded name past e
    → reach.snapshot_fires ≡ is_exchanged_by name past (Some e)
    → d.cpu ≡ e.cpu → (reach.records ≡ true → d.record.items ≡ emitted_bytes e) → row_of d ≡ counted_row e → IsDelivered d reach old new → InstanceStandsFor g name (request ∷ past) new
delivered-stands g name past (Emission ename cpu pid pairs) e d reach old new is are stands indexed records snapshot_fires on_cpu bytes row came =
    let request : Request = Emission ename cpu pid pairs in
    let spare : reach.snapshot_fires ≡ true → has_spare name past ≡ true = λ on. spare-there g name past e d.event stands.spared indexed (sym snapshot_fires ∙ on) in
    let written = written-rings name past e reach.records old.overwrite d.cpu d.record.items (rings g name past) records stands.overwrite on_cpu bytes in
    let families = sides-after name past ename cpu pid pairs e is g (recorded_in reach.records old.overwrite d.cpu d.record.items (rings g name past)) reach.snapshot_fires written
    (sym snapshot_fires) spare in
    let keeps : KeepsHists name past request = record { alive = refl; unwritten = refl } in
    let one : length past + 1 ≡ suc (length past) = omega arith in record {
      enabled = rw append-nil (came.enabled ∙ stands.enabled);
      filters = rw append-nil (came.filters ∙ stands.filters);
      triggers = rw append-nil (came.triggers ∙ triggers-after name past ename cpu pid pairs e is d.event old.triggers reach.snapshot_fires are indexed stands.triggers
          (sym snapshot_fires));
      hists = rw append-nil (came.hists ∙ stands.hists);
      tables = subst (AllOfEach (TableStandsFor name (request ∷ past) new.tables)) (sym came.hists) (λ k none inside j a within.
          table-hit name past request e (get_or old.hists d.event []) old.tables new.tables (get_or (get_or old.hists k none) j a) keeps is
          (kept-at (kept_hists name past) past old.hists [] e.k.event.name d.event e.k.event stands.hists indexed)
          (subst (λ (r : Row). AreHit r (get_or old.hists d.event []) old.tables new.tables) row came.tables)
          (stands.tables k none inside j a within));
      used = λ number unused. none-hit _ (kept_at number old.tables) (kept_at number new.tables)
          (stands.used number (ap (is_used number) (sym came.hists) ∙ unused)) (came.tables number);
      fitting = fitting-calm name past request keeps stands.fitting;
      overwrite = came.overwrite ∙ stands.overwrite;
      tracing = came.tracing ∙ stands.tracing;
      sides = subst (λ (f : SideFamilies). snapshot.StandsFor new.sides f) families (came.sides (side_families g name past) stands.sides);
      shaped = came.shaped g stands.shaped;
      offered = subst (λ (n : ℕ). WereOffered n new.sides) one (came.offered (length past) stands.offered);
      spared = rw append-nil (spared-after name past ename cpu pid pairs e is g reach.snapshot_fires (sym snapshot_fires) spare stands.spared);
    }
delivered-stands g name past request e d reach old new is are stands indexed records snapshot_fires on_cpu bytes row came = absurd (cc)
