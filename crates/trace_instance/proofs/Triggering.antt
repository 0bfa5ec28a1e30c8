-- What writes to an event's trigger file answer and change of an instance.
use Rattle.std.proofs.Common.{◌≡◌, ℕ, suc, ◌<◌, ◌==◌, Bool, true, false, if◌then◌else◌, unwrap_or, List, [], ◌∷◌, length, map, get_or, set, is_some, Option, Some, None, Result, Ok, Err, refl, sym, ap, ◌∙◌, subst, eq-eqb, eqb-true}
use Rattle.std.proofs.lemmas.Bool.{false≢true}
use Rattle.std.proofs.lemmas.List.{get_or-map, get_or_default, set-get_or}
use Rattle.std.proofs.lemmas.Slice.Eq.{bytes_eq-Decides}
use Rattle.page_ring.specs.Events.{Event}
use Rattle.trace_format.specs.Catalogs.{AreEvents}
use Rattle.trace_format.specs.Definitions.{Definition}
use Rattle.trace_trigger.specs.TriggerTexts.{said_of}
use Rattle.trace_command.specs.Paths as paths
use Rattle.trace_command.specs.Refusals.{IsRefusal}
use Rattle.trace_command.specs.Requests.{Request, WriteFile}
use Rattle.trace_command.specs.declared.command.Config.{Config}
use Rattle.trace_command.specs.declared.command.Reply.{Reply}
use Rattle.trace_command.specs.declared.file_name.EventFile.TheVariants as per_event
use Rattle.trace_command.specs.declared.refusal.Refusal.{Refusal}
use Rattle.trace_snapshot.specs.Sides.{SideFamilies}
use Rattle.tracer_specification.specs.Declarations.{IsIndexOf}
use Rattle.tracer_specification.specs.History.{named_trigger_answer, trigger_answer}
use Rattle.tracer_specification.specs.HistTriggers.{Written, hist_triggers, hists_of}
use Rattle.tracer_specification.specs.Rings.{other_rings, rings, rings_after, rings_after_write}
use Rattle.tracer_specification.specs.Settings.{NumberedEvent, declared_events, event_named, set_by}
use Rattle.tracer_specification.specs.Snapshots.{has_spare, sets_spare, spare_armed}
use Rattle.tracer_specification.specs.Triggers.{snapshot_trigger_of}
use Rattle.tracer_specification.proofs.EventHists.{hists_of-after, own_after}
use Rattle.tracer_specification.proofs.EventLists.{map-set, named_at}
use Rattle.tracer_specification.proofs.OwnFiles.{own-none, own_written}
use Rattle.tracer_specification.proofs.Sides.{AreStaying, rings-stay}
use Rattle.trace_instance.specs.private.Attaching.{AreKept, IsTriggerChange, IsTriggerEffect, arms, write_of}
use Rattle.trace_instance.specs.Changes.{IsAsked, IsEffect, asks_triggers, hists_changed, sides_changed, trigger_changed, triggers_after}
use Rattle.trace_instance.specs.FileAnswers.{IsWriteChange}
use Rattle.trace_instance.specs.Files.{name_at}
use Rattle.trace_instance.specs.Instances.{InstanceSeen, InstanceStandsFor, IsSpared, TablesFit, kept_as, kept_trigger, side_families}
use Rattle.trace_instance.specs.KeptHists.{attached_as, kept_hists}
use Rattle.trace_instance.specs.EventLists.{all_hists}
use Rattle.trace_instance.specs.declared.attach.EventTriggers.{EventTriggers}
use Rattle.trace_instance.specs.declared.change.InstanceChange.TheVariants.{Triggers}
use Rattle.trace_instance.specs.declared.change.TriggerChange.{TriggerChange}
use Rattle.trace_instance.specs.declared.change.TriggerChange.TheVariants.{AttachSnapshot, DetachSnapshot}
use Rattle.trace_instance.specs.declared.hists.AttachedHist.{AttachedHist}
use Rattle.trace_instance.specs.declared.trigger.AttachedSnapshot.{AttachedSnapshot}
use Rattle.trace_instance.specs.declared.write.WrittenText.{WrittenText}
use Rattle.trace_instance.proofs.Calm.{KeepsTrigger, kept-stays, no_event, same_families, spared-stays, trigger-stays}
use Rattle.trace_instance.proofs.Effects.{same_instance}
use Rattle.trace_instance.proofs.EventReads.{event_at, name-at_place}
use Rattle.trace_instance.proofs.Snapshotting.{KeepsSettings, some-mapped, spare-or-new, spared-new, trigger-keeps}
use Rattle.trace_instance.proofs.UsableInstance.{usable-stands}
use Rattle.trace_instance.proofs.Writes.{other-name}

-- ---- a write to the trigger file of the event at an index

-- its request
abbrev pub trigger_request : Option (List ℕ) → List Request → ℕ → Bool → List ℕ → Request
trigger_request name past index append text = WriteFile name (Some (paths.OfEvent (name_at (declared_events past) index) per_event.Trigger)) append text

-- the event of the file is found by its name
found-event : (past : List Request) (index : ℕ) → AreEvents [] (declared_events past) → index < length (declared_events past)
    → event_named (name_at (declared_events past) index) past ≡ Some (record { id = suc index; event = event_at past index })
found-event past index distinct inside =
    rw (name-at_place (declared_events past) index no_event inside) (named_at (declared_events past) index no_event distinct inside)

-- what it sets of the spare
sets-spare : (name : Option (List ℕ)) (past : List Request) (index : ℕ) (append : Bool) (text : List ℕ) → AreEvents [] (declared_events past)
    → index < length (declared_events past)
    → set_by name (sets_spare past) (trigger_request name past index append text) ≡ spare_armed (said_of (event_at past index) text)
sets-spare name past index append text distinct inside =
    let found = found-event past index distinct inside in
    rw (same_instance name, found) refl

-- no other event's trigger is set
others-stay : (name : Option (List ℕ)) (past : List Request) (index : ℕ) (append : Bool) (text : List ℕ) → AreEvents [] (declared_events past)
    → index < length (declared_events past) → (j : ℕ) → j < length (declared_events past) → (j ≡ index → ⊥)
    → KeepsTrigger name past (trigger_request name past index append text) (event_at past j)
others-stay name past index append text distinct inside j within other =
    let differ = other-name (declared_events past) j index no_event distinct within inside other in
    record { alive = refl; sets = rw (same_instance name, differ) refl; quiet = refl }

-- nor are its hist triggers
others-keep : (name : Option (List ℕ)) (past : List Request) (index : ℕ) (append : Bool) (text : List ℕ) → AreEvents [] (declared_events past)
    → index < length (declared_events past) → (j : ℕ) → j < length (declared_events past) → (j ≡ index → ⊥)
    → kept_hists name (trigger_request name past index append text ∷ past) (event_at past j) ≡ kept_hists name past (event_at past j)
others-keep name past index append text distinct inside j within other =
    let request : Request = trigger_request name past index append text in
    let event : Definition = event_at past j in
    let differ = other-name (declared_events past) j index no_event distinct within inside other in
    let unwritten : own_written name event request ≡ None = rw (same_instance name, differ) refl in
    ap (map attached_as)
    (hists_of-after name event past request refl
    ∙ ap (λ (o : Option Written). own_after (length past) (hist_triggers name past) o (hists_of name event past)) (own-none name event past request unwritten))

trigger-stay : (append : Bool) (event : List ℕ) (family : List (List Event)) → rings_after_write append (Some (paths.OfEvent event per_event.Trigger)) family ≡ family
trigger-stay true event family = refl
trigger-stay false event family = refl

trigger-live : (g : Config) (name : Option (List ℕ)) (past : List Request) (event : List ℕ) (append : Bool) (text : List ℕ) (family : List (List Event))
    → rings_after g name past (WriteFile name (Some (paths.OfEvent event per_event.Trigger)) append text) family ≡ family
trigger-live g name past event append text family = rw (same_instance name) (trigger-stay append event family)

-- ---- what changes

-- the triggers after a change of one
set-changed : (index : ℕ) (append : Bool) (change : TriggerChange) (olds : List (Option AttachedSnapshot)) (old : Option AttachedSnapshot) → get_or olds index None ≡ old
    → set olds index (trigger_changed change old) ≡ triggers_after (Triggers index append change) olds
set-changed index append (AttachSnapshot trigger) olds old is = refl
set-changed index append DetachSnapshot olds old is = refl
set-changed index append change olds old is = ap (set olds index) (sym is) ∙ set-get_or olds index None

-- a trigger for snapshots that is there after a change that attaches none was there before it
some-before : (change : TriggerChange) (old : Option AttachedSnapshot) → arms change ≡ None → is_some (trigger_changed change old) ≡ true → is_some old ≡ true
some-before (AttachSnapshot trigger) old none some = absurd (cc)
some-before DetachSnapshot old none some = absurd (cc)
some-before change old none some = some

pub trigger-effect : (g : Config) (name : Option (List ℕ)) (past : List Request) (index : ℕ) (written : WrittenText) (change : TriggerChange)
    → AreEvents [] (declared_events past) → index < length (declared_events past)
    → IsTriggerEffect name past (event_at past index) written change
    → IsEffect g name past (trigger_request name past index written.append written.text.now) (Triggers index written.append change)
trigger-effect g name past index written change distinct inside is = record {
  enabled = settings.enabled;
  filters = settings.filters;
  triggers = map-set (kept_trigger name past) (kept_trigger name (request ∷ past)) (trigger_changed change (kept_trigger name past here))
      (declared_events past) index no_event inside snapshot
      (λ j within other. kept-stays name past request (event_at past j) (others-stay name past index append text distinct inside j within other))
      ∙ set-changed index append change (map (kept_trigger name past) (declared_events past)) (kept_trigger name past here)
      (get_or-map (kept_trigger name past) (declared_events past) index no_event None inside);
  hists = map-set (kept_hists name past) (kept_hists name (request ∷ past)) (hists_changed change (if append then kept_hists name past here else []))
      (declared_events past) index no_event inside hists
      (others-keep name past index append text distinct inside)
      ∙ ap (λ (old : List AttachedHist). set (map (kept_hists name past) (declared_events past)) index (hists_changed change (if append then old else [])))
      (sym (get_or-map (kept_hists name past) (declared_events past) index no_event [] inside));
  tables = λ number. subst (λ (r : Request). IsAsked name past r (asks_triggers change number) number) same_request (is.tables number);
  joined = is.joined;
  fitting = λ fit. subst (λ (r : Request). TablesFit name (r ∷ past)) same_request (is.fitting fit);
  overwrite = settings.overwrite;
  tracing = settings.tracing;
  sides = sides change spare;
  spared = spared change spare snapshot;
}
  where
    append : Bool
    append = written.append

    text : List ℕ
    text = written.text.now

    request : Request
    request = trigger_request name past index append text

    here : Definition
    here = event_at past index

    same_request : write_of name here written ≡ request
    same_request =
        ap (λ (n : List ℕ). (let r : Request = WriteFile name (Some (paths.OfEvent n per_event.Trigger)) append text in r)) (sym (name-at_place (declared_events past) index no_event inside))

    settings : KeepsSettings name past request
    settings = trigger-keeps name past (name_at (declared_events past) index) append text

    snapshot : kept_trigger name (request ∷ past) here ≡ trigger_changed change (kept_trigger name past here)
    snapshot = ap (λ (r : Request). kept_trigger name (r ∷ past) here) (sym same_request) ∙ is.snapshot

    hists : kept_hists name (request ∷ past) here ≡ hists_changed change (if append then kept_hists name past here else [])
    hists = ap (λ (r : Request). kept_hists name (r ∷ past) here) (sym same_request) ∙ is.hists

    spare : set_by name (sets_spare past) request ≡ arms change
    spare = sets-spare name past index append text distinct inside ∙ is.spare

    staying : AreStaying g name past request
    staying = rings-stay g name past request refl refl

    live : rings g name (request ∷ past) ≡ rings g name past
    live = staying.live ∙ trigger-live g name past (name_at (declared_events past) index) append text (rings g name past)

    -- a spare that is as it was
    same : set_by name (sets_spare past) request ≡ None → has_spare name (request ∷ past) ≡ has_spare name past
    same none = ap (λ (o : Option Bool). unwrap_or o (has_spare name past)) none

    there : set_by name (sets_spare past) request ≡ Some true → has_spare name (request ∷ past) ≡ true
    there some = ap (λ (o : Option Bool). unwrap_or o (has_spare name past)) some

    same_sides : set_by name (sets_spare past) request ≡ None → side_families g name (request ∷ past) ≡ side_families g name past
    same_sides none =
        same_families (rings g name past) (rings g name (request ∷ past)) (has_spare name past) (has_spare name (request ∷ past))
        (other_rings g name past) (other_rings g name (request ∷ past)) live (same none) staying.spare

    new_sides : set_by name (sets_spare past) request ≡ Some true
        → side_families g name (request ∷ past) ≡ record { live = rings g name past; spare = Some (other_rings g name past) }
    new_sides some =
        same_families (rings g name past) (rings g name (request ∷ past)) true (has_spare name (request ∷ past)) (other_rings g name past)
        (other_rings g name (request ∷ past)) live (there some) staying.spare

    sides : (c : TriggerChange) → set_by name (sets_spare past) request ≡ arms c → IsSpared g name (declared_events past) past
        → side_families g name (request ∷ past)
        ≡ sides_changed g.cpus g.pages g.page_bytes (Triggers index append c) (side_families g name past)
    sides (AttachSnapshot trigger) sets spared =
        new_sides sets
        ∙ ap (λ (l : List (List Event)). (let f : SideFamilies = record { live = rings g name past; spare = Some l } in f)) (sym (spare-or-new g name past spared))
    sides c sets spared = same_sides sets

    -- this event has a trigger after it only where it had one
    was_there : (c : TriggerChange) → arms c ≡ None → kept_trigger name (request ∷ past) here ≡ trigger_changed c (kept_trigger name past here)
        → is_some (snapshot_trigger_of name here (request ∷ past)) ≡ true → is_some (snapshot_trigger_of name here past) ≡ true
    was_there c none snapshot some =
        sym (some-mapped (kept_as past here) (snapshot_trigger_of name here past))
        ∙ some-before c (kept_trigger name past here) none
        (ap is_some (sym snapshot) ∙ some-mapped (kept_as (request ∷ past) here) (snapshot_trigger_of name here (request ∷ past)) ∙ some)

    unarmed : (c : TriggerChange) → arms c ≡ None → set_by name (sets_spare past) request ≡ None
        → kept_trigger name (request ∷ past) here ≡ trigger_changed c (kept_trigger name past here)
        → IsSpared g name (declared_events past) past → IsSpared g name (declared_events past) (request ∷ past)
    unarmed c none sets snapshot =
        spared-stays g name past request (same sets) staying.spare (λ j within some. by j within some (j == index) refl)
      where
        by : (j : ℕ) → j < length (declared_events past) → is_some (snapshot_trigger_of name (event_at past j) (request ∷ past)) ≡ true
            → (at_index : Bool) → (j == index) ≡ at_index → is_some (snapshot_trigger_of name (event_at past j) past) ≡ true
        by j within some true at =
            let e = eqb-true j index at in
            ap (λ (k : ℕ). is_some (snapshot_trigger_of name (event_at past k) past)) e
            ∙ was_there c none snapshot (ap (λ (k : ℕ). is_some (snapshot_trigger_of name (event_at past k) (request ∷ past))) (sym e) ∙ some)
        by j within some false at =
            let stays = others-stay name past index append text distinct inside j within (λ e. absurd (false≢true (sym at ∙ eq-eqb j index e))) in
            ap is_some (sym (trigger-stays name past request (event_at past j) stays)) ∙ some

    spared : (c : TriggerChange) → set_by name (sets_spare past) request ≡ arms c
        → kept_trigger name (request ∷ past) here ≡ trigger_changed c (kept_trigger name past here)
        → IsSpared g name (declared_events past) past → IsSpared g name (declared_events past) (request ∷ past)
    spared (AttachSnapshot trigger) sets snapshot = λ before. spared-new g name past request (there sets)
    spared c sets snapshot = unarmed c refl sets snapshot

-- ---- what it answers

-- the event that was looked up is the one at its index
at-index : (past : List Request) (index : ℕ) (event : Definition) → index < length (declared_events past) → event ≡ get_or (declared_events past) index event
    → event ≡ event_at past index
at-index past index event inside at = at ∙ get_or_default (declared_events past) index event no_event inside

answer-is : (name : Option (List ℕ)) (past : List Request) (index : ℕ) (append : Bool) (text : List ℕ) → AreEvents [] (declared_events past)
    → index < length (declared_events past)
    → named_trigger_answer name past append text (event_named (name_at (declared_events past) index) past)
    ≡ trigger_answer name past append text (event_at past index)
answer-is name past index append text distinct inside = ap (named_trigger_answer name past append text) (found-event past index distinct inside)

-- the hist triggers at an index are what is kept of the event's
kept-there : (g : Config) (name : Option (List ℕ)) (past : List Request) (i : InstanceSeen) (index : ℕ) → InstanceStandsFor g name past i
    → index < length (declared_events past)
    → get_or i.hists index [] ≡ kept_hists name past (event_at past index)
kept-there g name past i index stands inside =
    ap (λ (hs : List (List AttachedHist)). get_or hs index []) stands.hists
    ∙ get_or-map (kept_hists name past) (declared_events past) index no_event [] inside

snapshot-there : (g : Config) (name : Option (List ℕ)) (past : List Request) (i : InstanceSeen) (index : ℕ) → InstanceStandsFor g name past i
    → index < length (declared_events past) → get_or i.triggers index None ≡ kept_trigger name past (event_at past index)
snapshot-there g name past i index stands inside =
    ap (λ (ts : List (Option AttachedSnapshot)). get_or ts index None) stands.triggers
    ∙ get_or-map (kept_trigger name past) (declared_events past) index no_event None inside

pub trigger-written : (g : Config) (name : Option (List ℕ)) (past : List Request) (index : ℕ) (event : Definition) (written : WrittenText) (change : TriggerChange)
    → AreEvents [] (declared_events past) → index < length (declared_events past) → event ≡ get_or (declared_events past) index event
    → IsTriggerChange name past event written (Ok change)
    → IsWriteChange g name past written.append written.text.now (paths.OfEvent (name_at (declared_events past) index) per_event.Trigger)
    (Ok (Triggers index written.append change))
trigger-written g name past index event written change distinct inside at is =
    let here : IsTriggerChange name past (event_at past index) written (Ok change) =
    subst (λ (e : Definition). IsTriggerChange name past e written (Ok change)) (at-index past index event inside at) is in (
      answer-is name past index written.append written.text.now distinct inside ∙ here.0,
      trigger-effect g name past index written change distinct inside here.1,
      λ i stands. let usable = usable-stands g name past i stands in (
        rw usable.triggers inside,
        rw usable.hists inside,
        rw (snapshot-there g name past i index stands inside, kept-there g name past i index stands inside) here.1.possible,
      ),
    )

pub trigger-refused : (g : Config) (name : Option (List ℕ)) (past : List Request) (index : ℕ) (event : Definition) (written : WrittenText) (refused : Refusal)
    → AreEvents [] (declared_events past) → index < length (declared_events past) → event ≡ get_or (declared_events past) index event
    → IsTriggerChange name past event written (Err refused)
    → IsWriteChange g name past written.append written.text.now (paths.OfEvent (name_at (declared_events past) index) per_event.Trigger) (Err refused)
trigger-refused g name past index event written refused distinct inside at is =
    let here : IsTriggerChange name past (event_at past index) written (Err refused) =
    subst (λ (e : Definition). IsTriggerChange name past e written (Err refused)) (at-index past index event inside at) is in
    subst (λ (answered : Result Reply Refusal). IsRefusal refused answered)
    (sym (answer-is name past index written.append written.text.now distinct inside)) here

-- what is kept at an index agrees with the requests
pub kept-at : (g : Config) (name : Option (List ℕ)) (past : List Request) (i : InstanceSeen) (index : ℕ) (event : Definition) (triggers : EventTriggers)
    → InstanceStandsFor g name past i → AreEvents [] (declared_events past) → index < length (declared_events past)
    → event ≡ get_or (declared_events past) index event
    → triggers.own.now.triggers.snapshot ≡ get_or i.triggers index None → triggers.own.now.triggers.hists ≡ get_or i.hists index []
    → all_hists triggers.all.now ≡ i.hists → triggers.event ≡ index → AreKept name past event triggers
kept-at g name past i index event triggers stands distinct inside at snapshot hists all place = record {
  id = suc index;
  named =
      let here : event ≡ event_at past index = at-index past index event inside at in
      ap (λ (e : Definition). event_named e.name past) here
      ∙ ap (λ (n : List ℕ). event_named n past) (sym (name-at_place (declared_events past) index no_event inside))
      ∙ found-event past index distinct inside
      ∙ ap (λ (e : Definition). (let k : Option NumberedEvent = Some (record { id = suc index; event = e }) in k)) (sym here);
  snapshot = snapshot ∙ snapshot-there g name past i index stands inside ∙ ap (kept_trigger name past) (sym (at-index past index event inside at));
  hists = hists ∙ kept-there g name past i index stands inside ∙ ap (kept_hists name past) (sym (at-index past index event inside at));
  all = all ∙ stands.hists;
  index = subst (λ (k : ℕ). IsIndexOf (declared_events past) event.name k event) (sym place)
      (record { inside = inside; there = at; named = (bytes_eq-Decides event.name event.name).1 refl });
  distinct = distinct;
  fitting = stands.fitting;
}
