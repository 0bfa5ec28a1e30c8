-- What writes to `snapshot` and to an event's trigger file answer and change.
use Rattle.std.proofs.Common.{◌≡◌, ℕ, ◌-◌, ◌==◌, Bool, true, false, if◌then◌else◌, unwrap_or, List, [], ◌∷◌, map, replicate, get_or, is_some, Option, Some, None, Result, Ok, Err, refl, sym, ap, ◌∙◌, eqb-true}
use Rattle.std.specs.List.{list_any}
use Rattle.std.specs.Option.{option_map}
use Rattle.std.proofs.lemmas.Bool.{false≢true}
use Rattle.page_ring.specs.Events.{Event}
use Rattle.trace_buffer.specs.Families.{all_cleared}
use Rattle.trace_lex.specs.Decimals.{written_number}
use Rattle.trace_filter.specs.Filters.{parsed_of}
use Rattle.trace_format.specs.Definitions.{Definition}
use Rattle.trace_command.specs.Paths as paths
use Rattle.trace_command.specs.Refusals.{IsRefusal}
use Rattle.trace_command.specs.Requests.{Request, WriteFile}
use Rattle.trace_command.specs.declared.command.Config.{Config}
use Rattle.trace_command.specs.declared.command.Reply.{Reply}
use Rattle.trace_command.specs.declared.file_name.EventFile.TheVariants as per_event
use Rattle.trace_command.specs.declared.file_name.TopFile.TheVariants as top
use Rattle.trace_command.specs.declared.refusal.Refusal.{Refusal}
use Rattle.trace_command.specs.declared.refusal.Refusal.TheVariants as refusal
use Rattle.trace_snapshot.specs.Sides.{SideFamilies}
use Rattle.tracer_specification.specs.History.{snapshot_answer, spare_answer}
use Rattle.tracer_specification.specs.Rings.{other_rings, rings, rings_after, rings_after_write, spare_after, spare_rings}
use Rattle.tracer_specification.specs.Settings.{declared_events, filter_of, is_enabled, is_tracing, kept_filter, overwrites}
use Rattle.tracer_specification.specs.Snapshots.{Empties, Frees, Takes, exchanges, has_spare, live_side, snapshot_write, written_snapshot}
use Rattle.tracer_specification.specs.Triggers.{has_snapshot_trigger, snapshot_trigger_of}
use Rattle.tracer_specification.proofs.EventLists.{map-agrees}
use Rattle.tracer_specification.proofs.Sides.{rings-exchanged, rings-stay, side-has_all_cpus}
use Rattle.trace_instance.specs.Changes.{IsEffect}
use Rattle.trace_instance.specs.FileAnswers.{IsWriteChange}
use Rattle.trace_instance.specs.Instances.{InstanceSeen, InstanceStandsFor, IsSpared, kept_as, kept_trigger}
use Rattle.trace_instance.specs.declared.change.InstanceChange.TheVariants.{ClearSpare, FreeSpare, TakeSnapshot}
use Rattle.trace_instance.specs.declared.trigger.AttachedSnapshot.{AttachedSnapshot}
use Rattle.trace_instance.proofs.Calm.{KeepsTrigger, any-passes, kept-stays, no_event, same_families, trigger-stays}
use Rattle.trace_instance.proofs.Effects.{same_instance}
use Rattle.trace_instance.proofs.HistSteps.{KeepsHists, all-hists-calm, fitting-calm, unasked}

-- ---- options

pub some-mapped : {A B : Type 0} (f : A → B) (o : Option A) → is_some (option_map f o) ≡ is_some o
some-mapped f None = refl
some-mapped f (Some x) = refl

-- what is there
pub there-is : {A : Type 0} (o : Option A) → is_some o ≡ true → (x : A) × (o ≡ Some x)
there-is None is = absurd (cc)
there-is (Some x) is = (x, refl)

-- ---- which triggers there are

any-kept : (name : Option (List ℕ)) (past : List Request) (events : List Definition)
    → list_any is_some (map (kept_trigger name past) events) ≡ list_any (λ (e : Definition). is_some (snapshot_trigger_of name e past)) events
any-kept name past [] = refl
any-kept name past (e ∷ events) =
    let first : is_some (kept_trigger name past e) ≡ is_some (snapshot_trigger_of name e past) = some-mapped (kept_as past e) (snapshot_trigger_of name e past) in
    let rest = any-kept name past events in
    cc

-- some event has a trigger where some is kept
trigger-there : (g : Config) (name : Option (List ℕ)) (past : List Request) (i : InstanceSeen) → InstanceStandsFor g name past i
    → list_any is_some i.triggers ≡ has_snapshot_trigger name past
trigger-there g name past i stands =
    ap (λ (ts : List (Option AttachedSnapshot)). list_any is_some ts) stands.triggers ∙ any-kept name past (declared_events past)

-- ---- the spare

-- the spare that is there, or a new one, is the other side
unwrapped : (spare : Bool) (rest new : List (List Event)) → (spare ≡ false → rest ≡ new) → unwrap_or (if spare then Some rest else None) new ≡ rest
unwrapped true rest new unused = refl
unwrapped false rest new unused = sym (unused refl)

pub spare-or-new : (g : Config) (name : Option (List ℕ)) (past : List Request) → IsSpared g name (declared_events past) past
    → unwrap_or (spare_rings g name past) (replicate g.cpus []) ≡ other_rings g name past
spare-or-new g name past spared = unwrapped (has_spare name past) (other_rings g name past) (replicate g.cpus []) spared.unused

-- an emptied side is as new
emptied : (g : Config) (name : Option (List ℕ)) (past : List Request) → all_cleared (other_rings g name past) ≡ replicate g.cpus []
emptied g name past =
    let none : List Event = [] in
    ap (λ (n : ℕ). replicate n none) (side-has_all_cpus g name (1 - live_side name past) past)

emptied-spare : (spare : Bool) (rest : List (List Event)) → (if spare then Some (all_cleared rest) else None) ≡ option_map all_cleared (if spare then Some rest else None)
emptied-spare true rest = refl
emptied-spare false rest = refl

-- where a spare was just made
pub spared-new : (g : Config) (name : Option (List ℕ)) (past : List Request) (request : Request) → has_spare name (request ∷ past) ≡ true
    → IsSpared g name (declared_events past) (request ∷ past)
spared-new g name past request there = record {
  unused = λ none. absurd (false≢true (sym none ∙ there));
  armed = λ some. there;
}

-- ---- settings stay

pub record KeepsSettings (name : Option (List ℕ)) (past : List Request) (request : Request) : Type 0 where
  pub enabled : map (λ (event : Definition). is_enabled name event.name (request ∷ past)) (declared_events past)
      ≡ map (λ (event : Definition). is_enabled name event.name past) (declared_events past)
  pub filters : map (kept_filter name (request ∷ past)) (declared_events past) ≡ map (kept_filter name past) (declared_events past)
  pub overwrite : overwrites name (request ∷ past) ≡ overwrites name past
  pub tracing : is_tracing name (request ∷ past) ≡ is_tracing name past

pub trigger-keeps : (name : Option (List ℕ)) (past : List Request) (event : List ℕ) (append : Bool) (text : List ℕ)
    → KeepsSettings name past (WriteFile name (Some (paths.OfEvent event per_event.Trigger)) append text)
trigger-keeps name past event append text =
    let same = same_instance name in
    let request : Request = WriteFile name (Some (paths.OfEvent event per_event.Trigger)) append text in
    let kept : map (λ (event : Definition). option_map (parsed_of event) (filter_of name event.name (request ∷ past))) (declared_events past)
    ≡ map (λ (event : Definition). option_map (parsed_of event) (filter_of name event.name past)) (declared_events past) = rw same refl in
    record { enabled = rw same refl; filters = kept; overwrite = rw same refl; tracing = rw same refl }

-- ---- writes to `snapshot`

snapshot-stay : (append : Bool) (family : List (List Event)) → rings_after_write append (Some (paths.OfInstance top.Snapshot)) family ≡ family
snapshot-stay true family = refl
snapshot-stay false family = refl

written-is : (text : List ℕ) (n : ℕ) → written_number text ≡ Some n → written_snapshot text ≡ Some (snapshot_write n)
unfolding written_snapshot
written-is text n is = ap (option_map snapshot_write) is

-- neither 0 nor 1
other-number : (n : ℕ) → (n ≡ 0 → ⊥) → (n ≡ 1 → ⊥) → snapshot_write n ≡ Empties
other-number n none one = by (n == 0) (n == 1) refl refl
  where
    by : (nought first : Bool) → (n == 0) ≡ nought → (n == 1) ≡ first → snapshot_write n ≡ Empties
    by true first is at = absurd (none (eqb-true n 0 is))
    by false true is at = absurd (one (eqb-true n 1 at))
    by false false is at = rw (is, at) refl

pub refused : (refusal : Refusal) (answered : Result Reply Refusal) → answered ≡ Err refusal → IsRefusal refusal answered
refused refusal answered is = (λ other. is, λ early. is)

module _ (g : Config) (name : Option (List ℕ)) (past : List Request) (append : Bool) (text : List ℕ) where
  abbrev request : Request
  request = WriteFile name (Some (paths.OfInstance top.Snapshot)) append text

  snapshot-keeps : KeepsSettings name past request
  snapshot-keeps =
      let same = same_instance name in
      let kept : map (λ (event : Definition). option_map (parsed_of event) (filter_of name event.name (request ∷ past))) (declared_events past)
      ≡ map (λ (event : Definition). option_map (parsed_of event) (filter_of name event.name past)) (declared_events past) = rw same refl in
      record { enabled = rw same refl; filters = kept; overwrite = rw same refl; tracing = rw same refl }

  snapshot-quiet : (event : Definition) → KeepsTrigger name past request event
  snapshot-quiet event = record { alive = refl; sets = rw (same_instance name) refl; quiet = refl }

  snapshot-triggers : map (kept_trigger name (request ∷ past)) (declared_events past) ≡ map (kept_trigger name past) (declared_events past)
  snapshot-triggers =
      map-agrees (kept_trigger name (request ∷ past)) (kept_trigger name past) (declared_events past) no_event
      (λ j inside. kept-stays name past request (get_or (declared_events past) j no_event) (snapshot-quiet (get_or (declared_events past) j no_event)))

  snapshot-keeps_hists : KeepsHists name past request
  snapshot-keeps_hists = record { alive = refl; unwritten = refl }

  -- an event has a trigger after it only where it had one
  snapshot-has_snapshot_trigger : list_any (λ (e : Definition). is_some (snapshot_trigger_of name e (request ∷ past))) (declared_events past) ≡ true
      → has_snapshot_trigger name past ≡ true
  snapshot-has_snapshot_trigger some =
      any-passes (λ (e : Definition). is_some (snapshot_trigger_of name e (request ∷ past))) (λ (e : Definition). is_some (snapshot_trigger_of name e past))
      (declared_events past) no_event
      (λ j inside one. ap is_some (sym (trigger-stays name past request (get_or (declared_events past) j no_event)
      (snapshot-quiet (get_or (declared_events past) j no_event)))) ∙ one) some

  snapshot-live : rings_after g name past request (rings g name past) ≡ rings g name past
  snapshot-live = rw (same_instance name) (snapshot-stay append (rings g name past))

  takes-effect : written_snapshot text ≡ Some Takes → IsEffect g name past request TakeSnapshot
  takes-effect takes =
      let same = same_instance name in
      let flips : exchanges name past request ≡ true = rw (same, takes) refl in
      let swapped = rings-exchanged g name past request refl flips in
      let untouched : spare_after g name request (other_rings g name past) ≡ other_rings g name past = rw (same, takes) refl in
      let live = swapped.live ∙ untouched in
      let rest = swapped.spare ∙ snapshot-live in
      let there : has_spare name (request ∷ past) ≡ true = rw (same, takes) refl in
      let families = same_families (other_rings g name past) (rings g name (request ∷ past)) true (has_spare name (request ∷ past)) (rings g name past)
      (other_rings g name (request ∷ past)) live there rest in
      let settings = snapshot-keeps in
      record {
        enabled = settings.enabled;
        filters = settings.filters;
        triggers = snapshot-triggers;
        hists = all-hists-calm name past request (declared_events past) snapshot-keeps_hists;
        tables = λ table. unasked name past request table snapshot-keeps_hists refl;
        joined = tt;
        fitting = fitting-calm name past request snapshot-keeps_hists;
        overwrite = settings.overwrite;
        tracing = settings.tracing;
        sides = λ spared. families
            ∙ ap (λ (l : List (List Event)). (let f : SideFamilies = record { live = l; spare = Some (rings g name past) } in f)) (sym (spare-or-new g name past spared));
        spared = λ spared. spared-new g name past request there;
      }

  frees-effect : written_snapshot text ≡ Some Frees → has_snapshot_trigger name past ≡ false → IsEffect g name past request FreeSpare
  frees-effect frees unarmed =
      let same = same_instance name in
      let stays : exchanges name past request ≡ false = rw (same, frees) refl in
      let staying = rings-stay g name past request refl stays in
      let cleared : spare_after g name request (other_rings g name past) ≡ all_cleared (other_rings g name past) = rw (same, frees) refl in
      let live = staying.live ∙ snapshot-live in
      let rest = staying.spare ∙ cleared in
      let gone : has_spare name (request ∷ past) ≡ false = rw (same, frees) refl in
      let families = same_families (rings g name past) (rings g name (request ∷ past)) false (has_spare name (request ∷ past)) (all_cleared (other_rings g name past))
      (other_rings g name (request ∷ past)) live gone rest in
      let settings = snapshot-keeps in
      record {
        enabled = settings.enabled;
        filters = settings.filters;
        triggers = snapshot-triggers;
        hists = all-hists-calm name past request (declared_events past) snapshot-keeps_hists;
        tables = λ table. unasked name past request table snapshot-keeps_hists refl;
        joined = tt;
        fitting = fitting-calm name past request snapshot-keeps_hists;
        overwrite = settings.overwrite;
        tracing = settings.tracing;
        sides = λ spared. families;
        spared = λ spared. record {
          unused = λ none. rest ∙ emptied g name past;
          armed = λ some. absurd (false≢true (sym unarmed ∙ snapshot-has_snapshot_trigger some));
        };
      }

  empties-effect : written_snapshot text ≡ Some Empties → IsEffect g name past request ClearSpare
  empties-effect empties =
      let same = same_instance name in
      let stays : exchanges name past request ≡ false = rw (same, empties) refl in
      let staying = rings-stay g name past request refl stays in
      let cleared : spare_after g name request (other_rings g name past) ≡ all_cleared (other_rings g name past) = rw (same, empties) refl in
      let live = staying.live ∙ snapshot-live in
      let rest = staying.spare ∙ cleared in
      let spare : has_spare name (request ∷ past) ≡ has_spare name past = rw (same, empties) refl in
      let families = same_families (rings g name past) (rings g name (request ∷ past)) (has_spare name past) (has_spare name (request ∷ past))
      (all_cleared (other_rings g name past)) (other_rings g name (request ∷ past)) live spare rest in
      let settings = snapshot-keeps in
      record {
        enabled = settings.enabled;
        filters = settings.filters;
        triggers = snapshot-triggers;
        hists = all-hists-calm name past request (declared_events past) snapshot-keeps_hists;
        tables = λ table. unasked name past request table snapshot-keeps_hists refl;
        joined = tt;
        fitting = fitting-calm name past request snapshot-keeps_hists;
        overwrite = settings.overwrite;
        tracing = settings.tracing;
        sides = λ spared. families
            ∙ ap (λ (o : Option (List (List Event))). (let f : SideFamilies = record { live = rings g name past; spare = o } in f))
            (emptied-spare (has_spare name past) (other_rings g name past));
        spared = λ spared. record {
          unused = λ none. rest ∙ emptied g name past;
          armed = λ some. spare ∙ spared.armed (snapshot-has_snapshot_trigger some);
        };
      }

  -- ---- what they answer

  pub snapshot-frees : (i : InstanceSeen) → InstanceStandsFor g name past i → written_number text ≡ Some 0 → list_any is_some i.triggers ≡ false
      → IsWriteChange g name past append text (paths.OfInstance top.Snapshot) (Ok FreeSpare)
  unfolding snapshot_answer
  snapshot-frees i stands number none =
      let is = written-is text 0 number in
      let unarmed : has_snapshot_trigger name past ≡ false = sym (trigger-there g name past i stands) ∙ none in (
        ap (spare_answer (has_snapshot_trigger name past)) is ∙ ap (λ (in_use : Bool). spare_answer in_use (Some Frees)) unarmed,
        frees-effect is unarmed,
        λ i stands. tt,
      )

  pub snapshot-busy : (i : InstanceSeen) → InstanceStandsFor g name past i → written_number text ≡ Some 0 → list_any is_some i.triggers ≡ true
      → IsWriteChange g name past append text (paths.OfInstance top.Snapshot) (Err refusal.Busy)
  unfolding snapshot_answer
  snapshot-busy i stands number some =
      let is = written-is text 0 number in
      let armed : has_snapshot_trigger name past ≡ true = sym (trigger-there g name past i stands) ∙ some in
      refused refusal.Busy (snapshot_answer name past text)
      (ap (spare_answer (has_snapshot_trigger name past)) is ∙ ap (λ (in_use : Bool). spare_answer in_use (Some Frees)) armed)

  pub snapshot-takes : written_number text ≡ Some 1 → IsWriteChange g name past append text (paths.OfInstance top.Snapshot) (Ok TakeSnapshot)
  unfolding snapshot_answer
  snapshot-takes number =
      let is = written-is text 1 number in (
        ap (spare_answer (has_snapshot_trigger name past)) is,
        takes-effect is,
        λ i stands. tt,
      )

  pub snapshot-empties : (n : ℕ) → written_number text ≡ Some n → (n ≡ 0 → ⊥) → (n ≡ 1 → ⊥)
      → IsWriteChange g name past append text (paths.OfInstance top.Snapshot) (Ok ClearSpare)
  unfolding snapshot_answer
  snapshot-empties n number none one =
      let is = written-is text n number ∙ ap Some (other-number n none one) in (
        ap (spare_answer (has_snapshot_trigger name past)) is,
        empties-effect is,
        λ i stands. tt,
      )
