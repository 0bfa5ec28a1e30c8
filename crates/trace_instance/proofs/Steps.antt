-- What one request more leaves of settings, and of an instance.
use Rattle.std.proofs.Common.{◌≡◌, ℕ, suc, ◌+◌, ◌<◌, ◌==◌, Bool, true, false, ◌||◌, ◌&&◌, cond, if◌then◌else◌, List, [], ◌∷◌, ◌++◌, length, map, get_or, All, is_some, Option, Some, None, unwrap_or, Result, Ok, Err, refl, sym, ap, ◌∙◌, subst, arith, append-nil, eq-eqb, eqb-true}
use Rattle.std.proofs.lemmas.Bool.{and_right, false_from_ne_true, false≢true}
use Rattle.std.proofs.lemmas.List.{map-append}
use Rattle.std.proofs.lemmas.List.Elements.{All-nil, All-push}
use Rattle.std.proofs.lemmas.List.Folds.{list_any-append}
use Rattle.std.proofs.lemmas.Slice.Eq.{bytes_eq-Decides}
use Rattle.std.specs.List.{list_any}
use Rattle.std.specs.Option.{option_map, option_to_list}
use Rattle.std.specs.Str.{bytes_eq}
use Rattle.trace_snapshot.specs.Sides as snapshot
use Rattle.trace_snapshot.specs.Sides.{SideFamilies, SidesSeen}
use Rattle.trace_filter.specs.Filters.{Parsed, parsed_of}
use Rattle.trace_format.specs.Definitions.{Definition}
use Rattle.trace_command.specs.Paths.{File, OfInstance, OfEvent}
use Rattle.trace_command.specs.Requests.{Request, WriteFile}
use Rattle.trace_command.specs.declared.command.Config.{Config}
use Rattle.trace_command.specs.declared.command.Reply.{Reply}
use Rattle.trace_command.specs.declared.file_name.EventFile.{EventFile}
use Rattle.trace_command.specs.declared.file_name.EventFile.TheVariants as per_event
use Rattle.trace_command.specs.declared.file_name.TopFile.TheVariants as top
use Rattle.trace_command.specs.declared.refusal.Refusal.{Refusal}
use Rattle.trace_command.specs.declared.refusal.Refusal.TheVariants.{NoSuchEvent, NoSuchInstance}
use Rattle.tracer_specification.specs.History.{answer_with_room, unless_refused}
use Rattle.tracer_specification.specs.Settings.{declares, declared_events, event_named, filter_of, is_enabled, is_same, kept_filter, makes, set_by, sets_filter, switches}
use Rattle.tracer_specification.specs.Triggers as triggers
use Rattle.tracer_specification.specs.Triggers.{sets_trigger, snapshot_trigger_of}
use Rattle.tracer_specification.proofs.Events.{named_in-fewer}
use Rattle.trace_trigger.specs.declared.spec.Action.{Action}
use Rattle.tracer_specification.specs.HistTriggers.{HistTrigger, Written, hist_triggers, hists_of}
use Rattle.tracer_specification.proofs.EventHists.{hists_of-after, hists_of-made, own_after, tables-made_before}
use Rattle.tracer_specification.proofs.Members.{contains-in, each-in}
use Rattle.tracer_specification.proofs.Tables.{IsBefore}
use Rattle.tracer_specification.proofs.OwnFiles.{own-none, own_written}
use Rattle.trace_instance.specs.KeptHists.{KeptTable, TableStandsFor, asked_if, attached_as, is_used, kept_at, kept_hists, kept_table, uses_table}
use Rattle.trace_instance.specs.declared.tables.Table.{Table}
use Rattle.trace_instance.specs.declared.hists.AttachedHist.{AttachedHist}
use Rattle.trace_instance.specs.Changes.{IsApplied, IsAsked, IsEffect, IsJoined, asks, flags_after, filters_after, hists_after, table_after, triggers_after, overwrite_after, tracing_after, with_event}
use Rattle.trace_instance.specs.Instances.{InstanceSeen, InstanceStandsFor, IsSpared, TablesAreUsed, WereOffered, kept_as, kept_trigger, side_families}
use Rattle.trace_instance.specs.declared.change.InstanceChange.{InstanceChange}
use Rattle.trace_instance.specs.declared.change.InstanceChange.TheVariants.{Keep, Triggers}
use Rattle.trace_instance.specs.declared.change.TriggerChange.TheVariants.{AttachHist, MakeHist}
use Rattle.trace_instance.specs.declared.trigger.AttachedSnapshot.{AttachedSnapshot}
use Rattle.trace_instance.proofs.KeptLists.{AllOfEach, OfNew, after-all, kept-all, kept-one, used-all}
use Rattle.trace_instance.proofs.LiveSide.{offered_more}
use Rattle.trace_instance.proofs.OneSays.{or-none}
use Rattle.trace_instance.proofs.TableStands.{none-asked, table-asked, table-joined, table-made}

-- ---- events that were not declared

-- a name that is not among the events after a request was not among them before
pub event_named-before : (name : List ℕ) (past : List Request) (request : Request) → event_named name (request ∷ past) ≡ None → event_named name past ≡ None
event_named-before name past request none = named_in-fewer name (declared_events past) (option_to_list (declares request)) none

-- an answer that is no refusal: what is asked for is there
is_known : (there known : Bool) (missing absent : Refusal) (answered : Result Reply Refusal) (reply : Reply)
    → cond there (unless_refused (cond known None (Some missing)) answered) (Err absent) ≡ Ok reply → known ≡ true
is_known true true missing absent answered reply given = refl
is_known true false missing absent answered reply given = cc
is_known false known missing absent answered reply given = cc

-- a name that is not there is not that of an event that is
other_name : (past : List Request) (event name : List ℕ) → event_named event past ≡ None → is_some (event_named name past) ≡ true → bytes_eq event name ≡ false
other_name past event name none there = false_from_ne_true (bytes_eq event name) (λ is.
    let e : event ≡ name = (bytes_eq-Decides event name).0 is in
    let gone : event_named name past ≡ None = subst (λ (n : List ℕ). event_named n past ≡ None) e none in
    let impossible : false ≡ true = rw gone at there in
    false≢true impossible)

cond_none : {A : Type 0} (b : Bool) (o : Option A) → o ≡ None → cond b o None ≡ None
cond_none true o none = none
cond_none false o none = refl

-- an event's file is of an event that is declared
abbrev IsOfDeclared : List Request → File → Type 0
IsOfDeclared past file = (name : List ℕ) (kind : EventFile) → file ≡ OfEvent name kind → is_some (event_named name past) ≡ true

-- as it is where a write is done
declared-file : (g : Config) (past : List Request) (name : Option (List ℕ)) (file : File) (append : Bool) (text : List ℕ) (reply : Reply)
    → answer_with_room g past (WriteFile name (Some file) append text) ≡ Ok reply → IsOfDeclared past file
declared-file g past name file append text reply given event kind is =
    let own : answer_with_room g past (WriteFile name (Some (OfEvent event kind)) append text) ≡ Ok reply =
    subst (λ (f : File). answer_with_room g past (WriteFile name (Some f) append text) ≡ Ok reply) is given in
    is_known _ _ NoSuchEvent NoSuchInstance _ reply own

-- then it does not switch an event that is not declared
file-switches_none : (past : List Request) (file : File) (text event : List ℕ) → event_named event past ≡ None → IsOfDeclared past file
    → switches event past file text ≡ None
file-switches_none past (OfEvent name per_event.Enable) text event none there = rw (other_name past event name none (there name per_event.Enable refl)) refl
file-switches_none past (OfInstance top.EventsEnable) text event none there = rw none refl
file-switches_none past file text event none there = refl

-- nor set its filter
file-sets_none : (past : List Request) (file : File) (text event : List ℕ) → event_named event past ≡ None → IsOfDeclared past file
    → sets_filter event past file text ≡ None
file-sets_none past (OfEvent name per_event.Filter) text event none there = rw (other_name past event name none (there name per_event.Filter refl)) refl
file-sets_none past (OfInstance top.EventsFilter) text event none there = rw none refl
file-sets_none past file text event none there = refl

-- nor set its trigger
file-triggers_none : (past : List Request) (file : File) (text : List ℕ) (event : Definition) → event_named event.name past ≡ None
    → IsOfDeclared past file → sets_trigger event past file text ≡ None
file-triggers_none past (OfEvent name per_event.Trigger) text event none there =
    rw (other_name past event.name name none (there name per_event.Trigger refl)) refl
file-triggers_none past file text event none there = refl

-- nor write its trigger file
not_written : (g : Config) (past : List Request) (request : Request) (reply : Reply) (name : Option (List ℕ)) (event : Definition)
    → answer_with_room g past request ≡ Ok reply → event_named event.name past ≡ None → own_written name event request ≡ None
not_written g past (WriteFile other (Some (OfEvent n per_event.Trigger)) append text) reply name event given none =
    let differ : bytes_eq event.name n ≡ false = other_name past event.name n none (is_known _ _ NoSuchEvent NoSuchInstance _ reply given) in
    let unwritten : (is_same name other && bytes_eq event.name n) ≡ false = and_right (is_same name other) _ differ in
    rw unwritten refl
not_written g past request reply name event given none = refl

-- a setting that no write to such a file sets keeps its default
not_set : {A : Type 0} (g : Config) (past : List Request) (request : Request) (reply : Reply) (name : Option (List ℕ)) (sets : File → List ℕ → Option A)
    → answer_with_room g past request ≡ Ok reply → ((file : File) (text : List ℕ) → IsOfDeclared past file → sets file text ≡ None)
    → set_by name sets request ≡ None
not_set g past (WriteFile other (Some file) append text) reply name sets given none =
    cond_none (is_same name other) (sets file text) (none file text (declared-file g past other file append text reply given))
not_set g past request reply name sets given none = refl

cond_default : {A : Type 0} (b : Bool) (default : A) (set : Option A) (old : A) → set ≡ None → old ≡ default → cond b default (unwrap_or set old) ≡ default
cond_default true default set old none is = refl
cond_default false default set old none is = rw none is

pub unknown_after : (g : Config) (past : List Request) (request : Request) (reply : Reply) (name : Option (List ℕ)) (event : List ℕ)
    → answer_with_room g past request ≡ Ok reply → event_named event past ≡ None → is_enabled name event past ≡ false
    → is_enabled name event (request ∷ past) ≡ false
unknown_after g past request reply name event given none is =
    cond_default (makes name request) false (set_by name (switches event past) request) (is_enabled name event past)
    (not_set g past request reply name (switches event past) given (λ file text. file-switches_none past file text event none)) is

pub unfiltered_after : (g : Config) (past : List Request) (request : Request) (reply : Reply) (name : Option (List ℕ)) (event : List ℕ)
    → answer_with_room g past request ≡ Ok reply → event_named event past ≡ None → filter_of name event past ≡ None
    → filter_of name event (request ∷ past) ≡ None
unfiltered_after g past request reply name event given none is =
    cond_default (makes name request) None (set_by name (sets_filter event past) request) (filter_of name event past)
    (not_set g past request reply name (sets_filter event past) given (λ file text. file-sets_none past file text event none)) is

pub untriggered_after : (g : Config) (past : List Request) (request : Request) (reply : Reply) (name : Option (List ℕ)) (event : Definition)
    → answer_with_room g past request ≡ Ok reply → event_named event.name past ≡ None → snapshot_trigger_of name event past ≡ None
    → snapshot_trigger_of name event (request ∷ past) ≡ None
untriggered_after g past request reply name event given none is =
    cond_default (makes name request) None (set_by name (sets_trigger event past) request) (snapshot_trigger_of name event past)
    (not_set g past request reply name (sets_trigger event past) given (λ file text. file-triggers_none past file text event none)) is

pub unwatched_after : (g : Config) (past : List Request) (request : Request) (reply : Reply) (name : Option (List ℕ)) (event : Definition)
    → answer_with_room g past request ≡ Ok reply → event_named event.name past ≡ None → hists_of name event past ≡ []
    → hists_of name event (request ∷ past) ≡ []
unwatched_after g past request reply name event given none is =
    by (makes name request) refl
  where
    by : (new : Bool) → makes name request ≡ new → hists_of name event (request ∷ past) ≡ []
    by true made = hists_of-made name event past request made
    by false alive =
        hists_of-after name event past request alive
        ∙ ap (λ (o : Option Written). own_after (length past) (hist_triggers name past) o (hists_of name event past))
        (own-none name event past request (not_written g past request reply name event given none))
        ∙ is

-- ---- an instance

-- at most so many are at most one more
offered-after : (past : List Request) (request : Request) (s : SidesSeen) → WereOffered (length past) s → WereOffered (length (request ∷ past)) s
offered-after past request s were =
    let one : length past + 1 ≡ suc (length past) = omega arith in
    subst (λ (n : ℕ). WereOffered n s) one (offered_more (length past) s were)

-- ---- the tables of an instance

-- a change only asks something of the table of a trigger that was there before
old-changed : (name : Option (List ℕ)) (past : List Request) (change : InstanceChange) (number : ℕ) (found : Option KeptTable) → IsJoined name past change
    → number < length past → table_after change number found ≡ option_map (asked_if (asks change number)) found
old-changed name past (Triggers index append (MakeHist one)) number found made early =
    by (one.value.attached.table == number) refl
  where
    by : (same : Bool) → (one.value.attached.table == number) ≡ same
        → (if same then Some (kept_table one.value.hist) else found)
        ≡ option_map (asked_if (if same then Some one.value.attached.spec.action else None)) found
    by true is =
        let new = made.table in
        absurd (omega (arith, eqb-true one.value.attached.table number is, new, early))
    by false is = sym (none-asked found)
old-changed name past (Triggers index append change) number found joined early = refl
old-changed name past change number found joined early = sym (none-asked found)

-- a trigger that is attached has the table of another one, or a new one
new-stands : (name : Option (List ℕ)) (past : List Request) (request : Request) (change : InstanceChange) (hists : List (List AttachedHist)) (old new : List Table)
    → ((number : ℕ) → is_used number (hists_after change hists) ≡ true → kept_at number new ≡ table_after change number (kept_at number old))
    → ((number : ℕ) → IsAsked name past request (asks change number) number) → IsJoined name past change
    → hists ≡ map (kept_hists name past) (declared_events past) → AllOfEach (TableStandsFor name past old) hists
    → OfNew (λ a. is_used a.table (hists_after change hists) ≡ true → TableStandsFor name (request ∷ past) new a) change
new-stands name past request (Triggers index append (AttachHist one)) hists old new came asked joins are all = λ used.
    let there = contains-in joins.t (hist_triggers name past) joins.there in
    let own = kept-one (TableStandsFor name past old) name past hists are all joins.t there in
    table-asked name past request old new one (asks (Triggers index append (AttachHist one)) one.table) (asked one.table) (came one.table used)
    (table-joined name past old one joins.t joins.table joins.alike own)
new-stands name past request (Triggers index append (MakeHist one)) hists old new came asked made are all = λ used.
    let a = one.value.attached in
    let hist = one.value.hist in
    let itself : (a.table == a.table) ≡ true = eq-eqb a.table a.table refl in
    table-made name past request new a hist made
    (subst (λ (told : Option Action). IsAsked name past request told a.table)
    (ap (λ (same : Bool). (let told : Option Action = if same then Some a.spec.action else None in told)) itself) (asked a.table))
    (came a.table used ∙ ap (λ (same : Bool). if same then Some (kept_table hist) else kept_at a.table old) itself)
new-stands name past request change hists old new came asked joined are all = tt

-- each of the triggers that a change leaves
changed-stands : (name : Option (List ℕ)) (past : List Request) (request : Request) (change : InstanceChange) (hists : List (List AttachedHist)) (old new : List Table)
    → ((number : ℕ) → is_used number (hists_after change hists) ≡ true → kept_at number new ≡ table_after change number (kept_at number old))
    → ((number : ℕ) → IsAsked name past request (asks change number) number) → IsJoined name past change
    → hists ≡ map (kept_hists name past) (declared_events past) → AllOfEach (TableStandsFor name past old) hists
    → AllOfEach (TableStandsFor name (request ∷ past) new) (hists_after change hists)
changed-stands name past request change hists old new came asked joined are all = λ k d inside j e within.
    after-all P change hists before (new-stands name past request change hists old new came asked joined are all) k d inside j e within
    (used-all (hists_after change hists) k d inside j e within)
  where
    P : AttachedHist → Type 0
    P a = is_used a.table (hists_after change hists) ≡ true → TableStandsFor name (request ∷ past) new a

    -- each table was made by a request that was done
    early : AllOfEach (λ a. a.table < length past) hists
    early = subst (AllOfEach (λ a. a.table < length past)) (sym are) (kept-all (λ a. a.table < length past) name past (declared_events past)
        (λ t there. (each-in (IsBefore (length past)) t (hist_triggers name past) (tables-made_before name past) there).table))

    before : AllOfEach P hists
    before k d inside j e within used =
        let a = get_or (get_or hists k d) j e in
        table-asked name past request old new a (asks change a.table) (asked a.table)
        (came a.table used ∙ old-changed name past change a.table (kept_at a.table old) joined (early k d inside j e within))
        (all k d inside j e within)

-- each table is that of some trigger still
used-after : (change : InstanceChange) (old new : InstanceSeen) → IsApplied change old new → TablesAreUsed old → TablesAreUsed new
used-after (Triggers index append change) old new applied used = λ number off. applied.unused number off
used-after change old new applied used = λ number off. applied.unused number off ∙ used number (ap (is_used number) (sym applied.hists) ∙ off)

-- ---- after a request

-- after a request that declares nothing, where the change is its effect
pub effect-stands : (g : Config) (name : Option (List ℕ)) (past : List Request) (request : Request) (change : InstanceChange) (old new : InstanceSeen)
    → declares request ≡ None → IsEffect g name past request change → InstanceStandsFor g name past old → IsApplied change old new
    → InstanceStandsFor g name (request ∷ past) new
effect-stands g name past request change old new nothing effect stands applied = record {
  enabled = rw (nothing, append-nil) (applied.enabled ∙ ap (flags_after change) stands.enabled ∙ sym effect.enabled);
  filters = rw (nothing, append-nil) (applied.filters ∙ ap (filters_after change) stands.filters ∙ sym effect.filters);
  triggers = rw (nothing, append-nil) (applied.triggers ∙ ap (triggers_after change) stands.triggers ∙ sym effect.triggers);
  hists = rw (nothing, append-nil) (applied.hists ∙ ap (hists_after change) stands.hists ∙ sym effect.hists);
  tables = subst (AllOfEach (TableStandsFor name (request ∷ past) new.tables)) (sym applied.hists)
      (changed-stands name past request change old.hists old.tables new.tables
      (λ number used. applied.tables number (ap (is_used number) applied.hists ∙ used)) effect.tables effect.joined stands.hists stands.tables);
  used = used-after change old new applied stands.used;
  fitting = effect.fitting stands.fitting;
  overwrite = applied.overwrite ∙ ap (overwrite_after change) stands.overwrite ∙ sym effect.overwrite;
  tracing = applied.tracing ∙ ap (tracing_after change) stands.tracing ∙ sym effect.tracing;
  sides = subst (λ (f : SideFamilies). snapshot.StandsFor new.sides f) (sym (effect.sides stands.spared))
      (rw (stands.shaped.cpus, stands.shaped.live.pages, stands.shaped.live.page_bytes) at (applied.sides (side_families g name past) stands.sides));
  shaped = applied.shaped g stands.shaped;
  offered = offered-after past request new.sides (applied.offered (length past) stands.offered);
  spared = rw (nothing, append-nil) (effect.spared stands.spared);
}

keeps : (i : InstanceSeen) → IsApplied Keep i i
keeps i = record {
  enabled = refl;
  filters = refl;
  triggers = refl;
  hists = refl;
  tables = λ number used. refl;
  unused = λ number off. refl;
  overwrite = refl;
  tracing = refl;
  sides = λ families stands. stands;
  shaped = λ g is. is;
  offered = λ most were. were;
}

-- an instance that the request changes nothing of
pub kept-stands : (g : Config) (name : Option (List ℕ)) (past : List Request) (request : Request) (i : InstanceSeen)
    → declares request ≡ None → IsEffect g name past request Keep → InstanceStandsFor g name past i → InstanceStandsFor g name (request ∷ past) i
kept-stands g name past request i nothing effect stands = effect-stands g name past request Keep i i nothing effect stands (keeps i)

-- one more event without a trigger
spared-more : (g : Config) (name : Option (List ℕ)) (past : List Request) (events : List Definition) (event : Definition) → snapshot_trigger_of name event past ≡ None
    → IsSpared g name events past → IsSpared g name (events ++ event ∷ []) past
spared-more g name past events event none spared = record {
  unused = spared.unused;
  armed = λ some. spared.armed (sym without ∙ some);
}
  where
    test : Definition → Bool
    test e = is_some (snapshot_trigger_of name e past)

    last : list_any test (event ∷ []) ≡ false
    last = rw none refl

    without : list_any test (events ++ event ∷ []) ≡ list_any test events
    without = list_any-append test events (event ∷ []) ∙ ap (λ (b : Bool). list_any test events || b) last ∙ or-none (list_any test events)

-- one more event without a hist trigger
used-more : (number : ℕ) (hists : List (List AttachedHist)) → is_used number (hists ++ [] ∷ []) ≡ is_used number hists
used-more number hists = list_any-append (uses_table number) hists ([] ∷ []) ∙ or-none (is_used number hists)

-- one more event is declared
pub declared-stands : (g : Config) (name : Option (List ℕ)) (past : List Request) (request : Request) (event : Definition) (i : InstanceSeen)
    → declares request ≡ Some event → IsEffect g name past request Keep → is_enabled name event.name (request ∷ past) ≡ false
    → filter_of name event.name (request ∷ past) ≡ None → snapshot_trigger_of name event (request ∷ past) ≡ None
    → hists_of name event (request ∷ past) ≡ [] → InstanceStandsFor g name past i → InstanceStandsFor g name (request ∷ past) (with_event i)
declared-stands g name past request event i declared effect off none idle unwatched stands = record {
  enabled = rw (declared, map-append)
      (ap (λ (flags : List Bool). flags ++ false ∷ []) (stands.enabled ∙ sym effect.enabled)
      ∙ ap (λ (flag : Bool). map (λ (e : Definition). is_enabled name e.name (request ∷ past)) (declared_events past) ++ flag ∷ []) (sym off));
  filters = rw (declared, map-append)
      (ap (λ (filters : List (Option Parsed)). filters ++ None ∷ []) (stands.filters ∙ sym effect.filters)
      ∙ ap (λ (text : Option (List ℕ)). map (kept_filter name (request ∷ past)) (declared_events past) ++ option_map (parsed_of event) text ∷ []) (sym none));
  triggers = rw (declared, map-append)
      (ap (λ (kept : List (Option AttachedSnapshot)). kept ++ None ∷ []) (stands.triggers ∙ sym effect.triggers)
      ∙ ap (λ (t : Option triggers.Trigger). map (kept_trigger name (request ∷ past)) (declared_events past) ++ option_map (kept_as (request ∷ past) event) t ∷ [])
      (sym idle));
  hists = rw declared (ap (λ (hists : List (List AttachedHist)). hists ++ [] ∷ []) (stands.hists ∙ sym effect.hists)
      ∙ ap (λ (hists : List HistTrigger). map (kept_hists name (request ∷ past)) (declared_events past) ++ map attached_as hists ∷ []) (sym unwatched)
      ∙ sym (map-append (kept_hists name (request ∷ past)) (declared_events past) (event ∷ [])));
  tables = All-push (λ (attached : List AttachedHist). All (TableStandsFor name (request ∷ past) i.tables) attached) i.hists []
      (λ k d inside j e within. table-asked name past request i.tables i.tables _ None (effect.tables _) (sym (none-asked _))
      (stands.tables k d inside j e within)) (All-nil (TableStandsFor name (request ∷ past) i.tables));
  used = λ number unused. stands.used number (sym (used-more number i.hists) ∙ unused);
  fitting = effect.fitting stands.fitting;
  overwrite = stands.overwrite ∙ sym effect.overwrite;
  tracing = stands.tracing ∙ sym effect.tracing;
  sides = subst (λ (f : SideFamilies). snapshot.StandsFor i.sides f) (sym (effect.sides stands.spared)) stands.sides;
  shaped = stands.shaped;
  offered = offered-after past request i.sides stands.offered;
  spared = rw declared (spared-more g name (request ∷ past) (declared_events past) event idle (effect.spared stands.spared));
}
