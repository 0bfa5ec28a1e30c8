-- What an instance keeps of each event, at the event's index among those that have a folder.
use Rattle.std.proofs.Common.{◌≡◌, ℕ, Bool, true, false, cond, List, [], ◌∷◌, ◌++◌, length, map, slice_get, Option, Some, None, refl, sym, ap, ◌∙◌, subst, append-nil}
use Rattle.std.specs.List.{AllByRecursion, flat_map}
use Rattle.std.specs.Option.{option_to_list}
use Rattle.std.proofs.lemmas.List.{length-map, map-append}
use Rattle.std.proofs.lemmas.Option.{get_or_from_slice_get}
use Rattle.trace_command.specs.Requests.{Request}
use Rattle.trace_command.specs.declared.command.Config.{Config}
use Rattle.trace_format.specs.Definitions.{Definition}
use Rattle.tracer_specification.specs.Settings.{declared_events, declares, is_enabled}
use Rattle.trace_instance.specs.Instances.{InstanceSeen, InstanceStandsFor}
use Rattle.mount_tree.specs.Scenes.{has_folder, shown_event}
use Rattle.mount_tree.specs.ScenesAfter.{declared_event, events_after}
use Rattle.mount_tree.specs.declared.scene.Event.{Event}
use Rattle.mount_tree.proofs.EntryLemmas.{append-first}
use Rattle.mount_tree.proofs.ListLemmas.{all-append, all-weaker}
use Rattle.mount_stub_files.specs.ToolTexts.{enabled_line, enabled_lines}
use Rattle.mount_stub_files.specs.private.Flags.{flagged_line, flagged_lines}

-- of each definition the same as of its name
abbrev of_each : (List ℕ → Bool) → List Definition → List Bool
of_each says events = map (λ (d : Definition). says d.name) events

abbrev IsAt : List Bool → (List ℕ → Bool) → Event → Type 0
IsAt flags says e = slice_get flags e.index ≡ Some (says e.name)

last_one : {X : Type 0} (xs : List X) (x : X) → slice_get (xs ++ x ∷ []) (length xs) ≡ Some x
last_one [] x = refl
last_one (y ∷ xs) x = last_one xs x

last_flag : (says : List ℕ → Bool) (events : List Definition) (name : List ℕ)
    → slice_get (of_each says events ++ says name ∷ []) (length events) ≡ Some (says name)
last_flag says events name =
    ap (λ (k : ℕ). slice_get (of_each says events ++ says name ∷ []) k) (sym (length-map events (λ (d : Definition). says d.name)))
    ∙ last_one (of_each says events) (says name)

shown_at : (says : List ℕ → Bool) (events : List Definition) (name : List ℕ)
    → AllByRecursion (IsAt (of_each says events ++ says name ∷ []) says) (shown_event (length events) name)
shown_at says events name = by (has_folder name)
  where
    by : (b : Bool) → AllByRecursion (IsAt (of_each says events ++ says name ∷ []) says) (cond b (record { index = length events; name = name } ∷ []) [])
    by true = (last_flag says events name, tt)
    by false = tt

pub events_at : (says : List ℕ → Bool) (past : List Request) → AllByRecursion (IsAt (of_each says (declared_events past)) says) (events_after past)
events_at says [] = tt
events_at says (request ∷ past) = by (declares request) (events_at says past)
  where
    by : (d : Option Definition) → AllByRecursion (IsAt (of_each says (declared_events past)) says) (events_after past)
        → AllByRecursion (IsAt (of_each says (declared_events past ++ option_to_list d)) says)
        (events_after past ++ declared_event (length (declared_events past)) d)
    by None all = rw (append-nil (declared_events past), append-nil (events_after past)) all
    by (Some d) all =
        let flags = of_each says (declared_events past) in
        let longer : of_each says (declared_events past ++ d ∷ []) ≡ flags ++ says d.name ∷ [] =
        map-append (λ (x : Definition). says x.name) (declared_events past) (d ∷ []) in
        subst (λ (all_flags : List Bool). AllByRecursion (IsAt all_flags says) (events_after past ++ shown_event (length (declared_events past)) d.name))
        (sym longer)
        (all-append (IsAt (flags ++ says d.name ∷ []) says) (events_after past) (shown_event (length (declared_events past)) d.name)
        (all-weaker (IsAt flags says) (IsAt (flags ++ says d.name ∷ []) says) (events_after past)
        (λ e at. append-first flags (says d.name ∷ []) e.index (says e.name) at) all)
        (shown_at says (declared_events past) d.name))

same_line : (flags : List Bool) (instance : Option (List ℕ)) (past : List Request) (e : Event)
    → slice_get flags e.index ≡ Some (is_enabled instance e.name past) → flagged_line flags e ≡ enabled_line instance past e
same_line flags instance past e at = rw (get_or_from_slice_get flags e.index (is_enabled instance e.name past) false at) refl

same_lines : (flags : List Bool) (instance : Option (List ℕ)) (past : List Request) (events : List Event)
    → AllByRecursion (IsAt flags (λ name. is_enabled instance name past)) events
    → flagged_lines flags events ≡ flat_map (enabled_line instance past) events
same_lines flags instance past [] all = refl
same_lines flags instance past (e ∷ events) all =
    let first = same_line flags instance past e all.0 in
    let rest = same_lines flags instance past events all.1 in
    cc

-- the lines that are kept are those that the requests say
pub kept_lines : (g : Config) (instance : Option (List ℕ)) (past : List Request) (kept : InstanceSeen) → InstanceStandsFor g instance past kept
    → flagged_lines kept.enabled (events_after past) ≡ enabled_lines instance past
kept_lines g instance past kept stands =
    let says : List ℕ → Bool = λ name. is_enabled instance name past in
    same_lines kept.enabled instance past (events_after past)
    (subst (λ (flags : List Bool). AllByRecursion (IsAt flags says) (events_after past)) (sym stands.enabled) (events_at says past))
