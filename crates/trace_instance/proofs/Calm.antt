-- Requests that leave an instance's triggers and its spare side as they are: reads, removals, the making of another instance, and writes to
-- all files but those of snapshots and triggers.
use Rattle.std.proofs.Common.{◌≡◌, ◌⊎◌, inl, inr, ℕ, ◌<◌, Bool, true, false, if◌then◌else◌, unwrap_or, List, [], ◌∷◌, length, map, get_or, is_some, Option, Some, None, refl, sym, ap, ◌∙◌, subst}
use Rattle.std.specs.List.{list_any}
use Rattle.std.specs.Option.{option_map}
use Rattle.std.proofs.lemmas.List.{get_or_default}
use Rattle.std.proofs.lemmas.List.Folds.{Any-from_list_any, list_any_at}
use Rattle.page_ring.specs.Events.{Event}
use Rattle.trace_filter.specs.Filters.{parsed_of}
use Rattle.trace_format.specs.Definitions.{Definition}
use Rattle.trace_command.specs.Paths as paths
use Rattle.trace_command.specs.Requests.{Request, MakeInstance, RemoveInstance, WriteFile, ReadFile}
use Rattle.trace_command.specs.declared.command.Config.{Config}
use Rattle.trace_command.specs.declared.file_name.EventFile.TheVariants as per_event
use Rattle.trace_command.specs.declared.file_name.TopFile.TheVariants as top
use Rattle.trace_snapshot.specs.Sides.{SideFamilies}
use Rattle.tracer_specification.specs.Emissions.{emitted}
use Rattle.trace_trigger.specs.declared.spec.Action.{Action}
use Rattle.tracer_specification.specs.HistTriggers.{written_to}
use Rattle.tracer_specification.specs.Rings.{other_rings, rings, rings_after, rings_after_write, spare_after, spare_rings}
use Rattle.tracer_specification.specs.Settings.{declared_events, is_enabled, is_same, is_tracing, kept_filter, makes, overwrites, set_by, sets_filter, sets_overwrite, sets_tracing, switches}
use Rattle.tracer_specification.specs.Snapshots.{exchanges, has_spare, sets_spare}
use Rattle.tracer_specification.specs.Triggers as triggers
use Rattle.tracer_specification.specs.Triggers.{sets_trigger, times_left, snapshot_trigger_of}
use Rattle.tracer_specification.proofs.EventLists.{map-agrees}
use Rattle.tracer_specification.proofs.Sides.{rings-stay}
use Rattle.tracer_specification.proofs.Triggered.{number-before, times_left-same}
use Rattle.trace_instance.specs.Changes.{IsAsked, IsEffect, IsJoined, asks, filters_after, flags_after, hists_after, overwrite_after, rings_changed, sides_changed, tracing_after, triggers_after}
use Rattle.trace_instance.specs.Instances.{IsSpared, kept_as, kept_trigger, side_families}
use Rattle.trace_instance.specs.KeptHists.{kept_hists}
use Rattle.trace_instance.specs.declared.hists.AttachedHist.{AttachedHist}
use Rattle.trace_instance.specs.declared.change.InstanceChange.{InstanceChange}
use Rattle.trace_instance.specs.declared.change.InstanceChange.TheVariants.{Keep}
use Rattle.trace_instance.specs.declared.trigger.AttachedSnapshot.{AttachedSnapshot}
use Rattle.trace_instance.proofs.HistSteps.{KeepsHists, all-hists-calm, fitting-calm, unasked}

-- an event for places outside of a list
pub no_event : Definition
no_event = record { name = []; fields = [] }

-- ---- triggers that stay

-- a request sets no trigger of this event and emits nothing
pub record KeepsTrigger (name : Option (List ℕ)) (past : List Request) (request : Request) (event : Definition) : Type 0 where
  pub alive : makes name request ≡ false
  pub sets : set_by name (sets_trigger event past) request ≡ None
  pub quiet : emitted past request ≡ None

pub trigger-stays : (name : Option (List ℕ)) (past : List Request) (request : Request) (event : Definition) → KeepsTrigger name past request event
    → snapshot_trigger_of name event (request ∷ past) ≡ snapshot_trigger_of name event past
trigger-stays name past request event is = rw (is.alive, is.sets) refl

pub kept-as_left : (past : List Request) (request : Request) (event : Definition) (trigger : Option triggers.Trigger)
    → ((t : triggers.Trigger) → trigger ≡ Some t → times_left event t (request ∷ past) ≡ times_left event t past)
    → option_map (kept_as (request ∷ past) event) trigger ≡ option_map (kept_as past event) trigger
kept-as_left past request event None left = refl
kept-as_left past request event (Some t) left = λ i. Some (record { number = t.number; left = left t refl i; filter = t.spec.filter })

pub kept-stays : (name : Option (List ℕ)) (past : List Request) (request : Request) (event : Definition) → KeepsTrigger name past request event
    → kept_trigger name (request ∷ past) event ≡ kept_trigger name past event
kept-stays name past request event is =
    ap (option_map (kept_as (request ∷ past) event)) (trigger-stays name past request event is)
    ∙ kept-as_left past request event (snapshot_trigger_of name event past)
    (λ t there. times_left-same event t past request (number-before name event past t there) (rw is.quiet refl))

-- ---- the spare that stays

-- some element passes where each that passes one test passes another
pub any-passes : {A : Type 0} (p q : A → Bool) (xs : List A) (d : A)
    → ((j : ℕ) → j < length xs → p (get_or xs j d) ≡ true → q (get_or xs j d) ≡ true) → list_any p xs ≡ true → list_any q xs ≡ true
any-passes p q xs d each some =
    let found = Any-from_list_any p xs some in
    let at = found.3 in
    let passes = found.4 in
    let same = get_or_default xs found.0 d found.1 found.2 in
    let one : p (get_or xs found.0 d) ≡ true = cc in
    list_any_at q xs found.0 d found.2 (each found.0 found.2 one)

-- the same sides
pub same_families : (live lives : List (List Event)) (spare spared : Bool) (rest rests : List (List Event)) → lives ≡ live → spared ≡ spare → rests ≡ rest
    → (let f : SideFamilies = record { live = lives; spare = if spared then Some rests else None } in f)
    ≡ record { live = live; spare = if spare then Some rest else None }
same_families live lives spare spared rest rests one two three =
    λ i. record { live = one i; spare = if two i then Some (three i) else None }

-- the spare and what makes it needed are as they were
pub spared-stays : (g : Config) (name : Option (List ℕ)) (past : List Request) (request : Request) → has_spare name (request ∷ past) ≡ has_spare name past
    → other_rings g name (request ∷ past) ≡ other_rings g name past
    → ((j : ℕ) → j < length (declared_events past) → is_some (snapshot_trigger_of name (get_or (declared_events past) j no_event) (request ∷ past)) ≡ true
    → is_some (snapshot_trigger_of name (get_or (declared_events past) j no_event) past) ≡ true)
    → IsSpared g name (declared_events past) past → IsSpared g name (declared_events past) (request ∷ past)
spared-stays g name past request spare rings each spared = record {
  unused = λ none. rings ∙ spared.unused (sym spare ∙ none);
  armed = λ some. spare
      ∙ spared.armed (any-passes (λ (e : Definition). is_some (snapshot_trigger_of name e (request ∷ past))) (λ (e : Definition). is_some (snapshot_trigger_of name e past))
      (declared_events past) no_event each some);
}

-- ---- calm requests

pub record IsCalm (name : Option (List ℕ)) (past : List Request) (request : Request) : Type 0 where
  pub triggers : (j : ℕ) → j < length (declared_events past) → KeepsTrigger name past request (get_or (declared_events past) j no_event)
  pub alive : makes name request ≡ false
  pub stays : exchanges name past request ≡ false
  pub sets : set_by name (sets_spare past) request ≡ None
  pub untouched : (g : Config) (family : List (List Event)) → spare_after g name request family ≡ family
  pub unwritten : written_to name past request ≡ None
  pub quiet : emitted past request ≡ None

-- ---- changes that leave triggers and the spare as they are

-- such a change
pub record IsQuiet (change : InstanceChange) : Type 0 where
  pub triggers : (old : List (Option AttachedSnapshot)) → triggers_after change old ≡ old
  pub hists : (old : List (List AttachedHist)) → hists_after change old ≡ old
  pub asks : (table : ℕ) → asks change table ≡ None
  pub joined : (name : Option (List ℕ)) (past : List Request) → IsJoined name past change
  pub sides : (cpus pages page_bytes : ℕ) (f : SideFamilies)
      → sides_changed cpus pages page_bytes change f ≡ record { live = rings_changed pages page_bytes change f.live; spare = f.spare }

pub quiet-keep : IsQuiet Keep
quiet-keep = record { triggers = λ old. refl; hists = λ old. refl; asks = λ table. refl; joined = λ name past. tt; sides = λ cpus pages page_bytes f. refl }

-- what else it says of an instance
pub record IsCalmEffect (g : Config) (name : Option (List ℕ)) (past : List Request) (request : Request) (change : InstanceChange) : Type 0 where
  pub enabled : map (λ (event : Definition). is_enabled name event.name (request ∷ past)) (declared_events past)
      ≡ flags_after change (map (λ (event : Definition). is_enabled name event.name past) (declared_events past))
  pub filters : map (kept_filter name (request ∷ past)) (declared_events past) ≡ filters_after change (map (kept_filter name past) (declared_events past))
  pub overwrite : overwrites name (request ∷ past) ≡ overwrite_after change (overwrites name past)
  pub tracing : is_tracing name (request ∷ past) ≡ tracing_after change (is_tracing name past)
  pub rings : rings_after g name past request (rings g name past) ≡ rings_changed g.pages g.page_bytes change (rings g name past)

-- is the effect of a calm request
pub calm-effect : (g : Config) (name : Option (List ℕ)) (past : List Request) (request : Request) (change : InstanceChange) → IsCalm name past request
    → IsQuiet change → IsCalmEffect g name past request change → IsEffect g name past request change
calm-effect g name past request change calm quiet is = record {
  enabled = is.enabled;
  filters = is.filters;
  triggers = map-agrees (kept_trigger name (request ∷ past)) (kept_trigger name past) (declared_events past) no_event
      (λ j inside. kept-stays name past request (get_or (declared_events past) j no_event) (calm.triggers j inside))
      ∙ sym (quiet.triggers (map (kept_trigger name past) (declared_events past)));
  hists = all-hists-calm name past request (declared_events past) keeps ∙ sym (quiet.hists (map (kept_hists name past) (declared_events past)));
  tables = λ table. subst (λ (asked : Option Action). IsAsked name past request asked table) (sym (quiet.asks table))
      (unasked name past request table keeps calm.quiet);
  joined = quiet.joined name past;
  fitting = fitting-calm name past request keeps;
  overwrite = is.overwrite;
  tracing = is.tracing;
  sides = λ spared. same_families (rings_after g name past request (rings g name past)) (rings g name (request ∷ past)) (has_spare name past)
      (has_spare name (request ∷ past)) (other_rings g name past) (other_rings g name (request ∷ past))
      (rings-stay g name past request calm.alive calm.stays).live spare other
      ∙ ap (λ (live : List (List Event)). (let f : SideFamilies = record { live = live; spare = spare_rings g name past } in f)) is.rings
      ∙ sym (quiet.sides g.cpus g.pages g.page_bytes (side_families g name past));
  spared = spared-stays g name past request spare other (λ j inside some.
      ap is_some (sym (trigger-stays name past request (get_or (declared_events past) j no_event) (calm.triggers j inside))) ∙ some);
}
  where
    keeps : KeepsHists name past request
    keeps = record { alive = calm.alive; unwritten = calm.unwritten }

    spare : has_spare name (request ∷ past) ≡ has_spare name past
    spare = rw (calm.alive, calm.sets) refl

    other : other_rings g name (request ∷ past) ≡ other_rings g name past
    other = (rings-stay g name past request calm.alive calm.stays).spare ∙ calm.untouched g (other_rings g name past)

-- ---- writes

-- a change says of a file what a write to it sets, whatever was set before: one that is neither of snapshots nor of triggers
pub record IsWriteEffect (g : Config) (past : List Request) (append : Bool) (text : List ℕ) (file : paths.File) (change : InstanceChange) : Type 0 where
  pub enabled : (old : List ℕ → Bool) → map (λ (event : Definition). unwrap_or (switches event.name past file text) (old event.name)) (declared_events past)
      ≡ flags_after change (map (λ (event : Definition). old event.name) (declared_events past))
  pub filters : (old : List ℕ → Option (List ℕ))
      → map (λ (event : Definition). option_map (parsed_of event) (unwrap_or (sets_filter event.name past file text) (old event.name))) (declared_events past)
      ≡ filters_after change (map (λ (event : Definition). option_map (parsed_of event) (old event.name)) (declared_events past))
  pub overwrite : (old : Bool) → unwrap_or (sets_overwrite past file text) old ≡ overwrite_after change old
  pub tracing : (old : Bool) → unwrap_or (sets_tracing past file text) old ≡ tracing_after change old
  pub rings : (old : List (List Event)) → rings_after_write append (Some file) old ≡ rings_changed g.pages g.page_bytes change old

-- a write to a file that is neither of snapshots nor of triggers
abbrev pub IsQuietFile : paths.File → Type 0
IsQuietFile (paths.OfInstance top.Snapshot) = ⊥
IsQuietFile (paths.OfEvent event per_event.Trigger) = ⊥
IsQuietFile file = Unit {0}

-- the same by either branch
pub either-same : {A : Type 0} (one : Bool) (x : A) → (if one then x else x) ≡ x
either-same true x = refl
either-same false x = refl

-- a write is calm that is to such a file or to one of another instance
calm-file : (name other : Option (List ℕ)) (past : List Request) (file : paths.File) (append : Bool) (text : List ℕ)
    → (is_same other name ≡ false) ⊎ IsQuietFile file → IsCalm other past (WriteFile name (Some file) append text)
calm-file name other past file append text calm = record {
  triggers = λ j inside. record { alive = refl; sets = trigger file calm (get_or (declared_events past) j no_event); quiet = refl };
  alive = refl;
  stays = stays file calm;
  sets = spare file calm;
  untouched = untouched file calm;
  unwritten = unwritten file calm;
  quiet = refl;
}
  where
    trigger : (f : paths.File) → (is_same other name ≡ false) ⊎ IsQuietFile f → (event : Definition)
        → set_by other (sets_trigger event past) (WriteFile name (Some f) append text) ≡ None
    trigger f (inl off) event = rw off refl
    trigger (paths.OfEvent e per_event.Trigger) (inr is) event = absurd is
    trigger _ (inr is) event = either-same (is_same other name) None

    stays : (f : paths.File) → (is_same other name ≡ false) ⊎ IsQuietFile f → exchanges other past (WriteFile name (Some f) append text) ≡ false
    stays (paths.OfInstance top.Snapshot) (inl off) = rw off refl
    stays (paths.OfInstance top.Snapshot) (inr is) = absurd is
    stays _ is = refl

    spare : (f : paths.File) → (is_same other name ≡ false) ⊎ IsQuietFile f
        → set_by other (sets_spare past) (WriteFile name (Some f) append text) ≡ None
    spare f (inl off) = rw off refl
    spare (paths.OfEvent e per_event.Trigger) (inr is) = absurd is
    spare (paths.OfInstance top.Snapshot) (inr is) = absurd is
    spare _ (inr is) = either-same (is_same other name) None

    untouched : (f : paths.File) → (is_same other name ≡ false) ⊎ IsQuietFile f → (g : Config) (family : List (List Event))
        → spare_after g other (WriteFile name (Some f) append text) family ≡ family
    untouched (paths.OfInstance top.Snapshot) (inl off) g family = rw off refl
    untouched (paths.OfInstance top.Snapshot) (inr is) g family = absurd is
    untouched _ is g family = refl

    unwritten : (f : paths.File) → (is_same other name ≡ false) ⊎ IsQuietFile f → written_to other past (WriteFile name (Some f) append text) ≡ None
    unwritten (paths.OfEvent e per_event.Trigger) (inl off) = rw off refl
    unwritten (paths.OfEvent e per_event.Trigger) (inr is) = absurd is
    unwritten _ is = refl

pub calm-write : (name other : Option (List ℕ)) (past : List Request) (file : paths.File) (append : Bool) (text : List ℕ) → IsQuietFile file
    → IsCalm other past (WriteFile name (Some file) append text)
calm-write name other past file append text quiet = calm-file name other past file append text (inr quiet)

pub calm-other_write : (name other : Option (List ℕ)) (past : List Request) (file : paths.File) (append : Bool) (text : List ℕ)
    → is_same other name ≡ false → IsCalm other past (WriteFile name (Some file) append text)
calm-other_write name other past file append text is = calm-file name other past file append text (inl is)

-- ---- all else

pub calm-read : (name other : Option (List ℕ)) (past : List Request) (file : Option paths.File) (limit : Option ℕ)
    → IsCalm other past (ReadFile name file limit)
calm-read name other past file limit = record {
  triggers = λ j inside. record { alive = refl; sets = refl; quiet = refl };
  alive = refl;
  stays = refl;
  sets = refl;
  untouched = λ g family. refl;
  unwritten = refl;
  quiet = refl;
}

pub calm-remove : (name other : Option (List ℕ)) (past : List Request) → IsCalm other past (RemoveInstance name)
calm-remove name other past = record {
  triggers = λ j inside. record { alive = refl; sets = refl; quiet = refl };
  alive = refl;
  stays = refl;
  sets = refl;
  untouched = λ g family. refl;
  unwritten = refl;
  quiet = refl;
}

pub calm-make : (name : List ℕ) (other : Option (List ℕ)) (past : List Request) → makes other (MakeInstance (Some name)) ≡ false
    → IsCalm other past (MakeInstance (Some name))
calm-make name other past is = record {
  triggers = λ j inside. record { alive = is; sets = refl; quiet = refl };
  alive = is;
  stays = refl;
  sets = refl;
  untouched = λ g family. rw is refl;
  unwritten = refl;
  quiet = refl;
}
