-- A spare is there where an event has a trigger.
use Rattle.std.proofs.Common.{◌≡◌, ℕ, suc, ◌-◌, ◌<◌, Bool, true, false, ◌||◌, if◌then◌else◌, List, [], ◌∷◌, length, get_or, bytes_eq, is_some, Option, None, Some, unwrap_or, IsOk, Result, Ok, Err, refl, sym, ap, ◌∙◌, subst, arith, true≢false}
use Rattle.std.specs.List.{list_any}
use Rattle.std.specs.Option.{option_to_list}
use Rattle.std.proofs.lemmas.Bool.{false≢true}
use Rattle.std.proofs.lemmas.List.Folds.{list_any_at}
use Rattle.std.proofs.lemmas.Option.{none-some}
use Rattle.std.proofs.lemmas.Slice.Eq.{bytes_eq-Decides}
use Rattle.trace_format.specs.Definitions.{Definition}
use Rattle.trace_trigger.specs.TriggerTexts.{said_of}
use Rattle.trace_trigger.specs.declared.fault.TriggerFault.{TriggerFault}
use Rattle.trace_trigger.specs.declared.trigger.TriggerText.{TriggerText}
use Rattle.trace_trigger.specs.declared.trigger.TriggerText.TheVariants.{Nothing, AttachSnapshot, RemoveSnapshot, Hist, RemoveHist}
use Rattle.trace_command.specs.Paths.{File, OfInstance, OfEvent}
use Rattle.trace_command.specs.Requests.{Request, WriteFile}
use Rattle.trace_command.specs.declared.command.Config.{Config}
use Rattle.trace_command.specs.declared.file_name.EventFile.TheVariants as per_event
use Rattle.trace_command.specs.declared.file_name.TopFile.TheVariants as top
use Rattle.tracer_specification.specs.History.{answer_with_room, missing_event, unless_refused, spare_answer, snapshot_answer, named_trigger_answer}
use Rattle.tracer_specification.specs.Laws.{TriggersHaveTheirSpare}
use Rattle.tracer_specification.specs.Pasts.{AreDone}
use Rattle.tracer_specification.specs.Settings.{NumberedEvent, is_same, makes, set_by, event_named, declares, declared_events}
use Rattle.tracer_specification.specs.Snapshots.{SnapshotWrite, Frees, Takes, Empties, written_snapshot, spare_written, spare_armed, spare_armed_for, sets_spare, has_spare}
use Rattle.tracer_specification.specs.Triggers.{Trigger, written_trigger, sets_trigger, snapshot_trigger_of, has_snapshot_trigger}
use Rattle.tracer_specification.proofs.Events.{named_in-fewer, index_of_id}
use Rattle.tracer_specification.proofs.EventLists.{named_at}
use Rattle.tracer_specification.proofs.LegalEvents.{asked-done, done-events, named_in-more, named-is_numbered}

-- ---- one instance by two names

pub same-instance : (instance other : Option (List ℕ)) → is_same instance other ≡ true → instance ≡ other
same-instance None None same = refl
same-instance (Some name) (Some other) same = ap Some ((bytes_eq-Decides name other).0 same)
same-instance None (Some other) same = absurd (false≢true same)
same-instance (Some name) None same = absurd (false≢true same)

-- ---- the events that are declared

-- a test of all events that one of them passes
pub named-passes : (test : Definition → Bool) (past : List Request) (name : List ℕ) (k : NumberedEvent) → event_named name past ≡ Some k → test k.event ≡ true
    → list_any test (declared_events past) ≡ true
named-passes test past name k found passes =
    let events = declared_events past in
    let numbered = named-is_numbered events name k found in
    let index = index_of_id events name k.id k.event numbered.named numbered.there in
    list_any_at test events (k.id - 1) k.event index.inside (ap test (sym index.there) ∙ passes)

-- ---- what a write sets of a trigger

said-armed : (number : ℕ) (said : Result TriggerText TriggerFault) (t : Trigger) → written_trigger number said ≡ Some (Some t) → spare_armed said ≡ Some true
said-armed number (Ok (AttachSnapshot spec)) t is = refl
said-armed number (Ok RemoveSnapshot) t is = absurd (cc)
said-armed number (Ok Nothing) t is = absurd (cc)
said-armed number (Ok (Hist spec)) t is = absurd (cc)
said-armed number (Ok (RemoveHist spec)) t is = absurd (cc)
said-armed number (Err fault) t is = absurd (cc)

-- a write that attaches a trigger to a declared event makes a spare
sets-armed : (k : NumberedEvent) (past : List Request) (file : File) (text : List ℕ) (t : Trigger) → event_named k.event.name past ≡ Some k
    → sets_trigger k.event past file text ≡ Some (Some t) → sets_spare past file text ≡ Some true
sets-armed k past (OfEvent name per_event.Trigger) text t there is = by (bytes_eq k.event.name name) refl is
  where
    by : (same : Bool) → bytes_eq k.event.name name ≡ same
        → (if same then written_trigger (length past) (said_of k.event text) else None) ≡ Some (Some t) → spare_armed_for (event_named name past) text ≡ Some true
    by true same h =
        let e : k.event.name ≡ name = (bytes_eq-Decides k.event.name name).0 same in
        let found : event_named name past ≡ Some k = ap (λ (n : List ℕ). event_named n past) (sym e) ∙ there in
        ap (λ (o : Option NumberedEvent). spare_armed_for o text) found ∙ said-armed (length past) (said_of k.event text) t h
    by false same h = absurd (none-some (Some t) h)
sets-armed k past _ text t there is = absurd (none-some (Some t) is)

set-armed : (instance : Option (List ℕ)) (k : NumberedEvent) (past : List Request) (request : Request) (t : Trigger) → event_named k.event.name past ≡ Some k
    → set_by instance (sets_trigger k.event past) request ≡ Some (Some t) → set_by instance (sets_spare past) request ≡ Some true
set-armed instance k past (WriteFile other (Some file) append text) t there is = by (is_same instance other) is
  where
    by : (same : Bool) → (if same then sets_trigger k.event past file text else None) ≡ Some (Some t)
        → (if same then sets_spare past file text else None) ≡ Some true
    by true h = sets-armed k past file text t there h
    by false h = absurd (none-some (Some t) h)
set-armed instance k past _ t there is = absurd (none-some (Some t) is)

-- a write that is done sets none for an event that is not declared
sets-none : (g : Config) (other : Option (List ℕ)) (past : List Request) (append : Bool) (file : File) (text : List ℕ) (event : Definition)
    → IsOk (answer_with_room g past (WriteFile other (Some file) append text)) → event_named event.name past ≡ None → sets_trigger event past file text ≡ None
sets-none g other past append (OfEvent name per_event.Trigger) text event done none = by (bytes_eq event.name name) refl
  where
    asked : IsOk (unless_refused (missing_event past name) (named_trigger_answer other past append text (event_named name past)))
    asked = asked-done other past (unless_refused (missing_event past name) (named_trigger_answer other past append text (event_named name past))) done

    by : (same : Bool) → bytes_eq event.name name ≡ same → (if same then written_trigger (length past) (said_of event text) else None) ≡ None
    by false same = refl
    by true same =
        let e : event.name ≡ name = (bytes_eq-Decides event.name name).0 same in
        let found : event_named name past ≡ None = ap (λ (n : List ℕ). event_named n past) (sym e) ∙ none in
        absurd (let h : false ≡ true = rw found at asked in false≢true h)
sets-none g other past append _ text event done none = refl

set-none : (g : Config) (instance : Option (List ℕ)) (past : List Request) (request : Request) (event : Definition) → IsOk (answer_with_room g past request)
    → event_named event.name past ≡ None → set_by instance (sets_trigger event past) request ≡ None
set-none g instance past (WriteFile other (Some file) append text) event done none = by (is_same instance other)
  where
    by : (same : Bool) → (if same then sets_trigger event past file text else None) ≡ None
    by true = sets-none g other past append file text event done none
    by false = refl
set-none g instance past _ event done none = refl

-- ---- a spare that is freed

-- the write that freed it
pub record IsFreed (instance : Option (List ℕ)) (request : Request) : Type 0 where
  pub append : Bool
  pub text : List ℕ
  pub is : request ≡ WriteFile instance (Some (OfInstance top.Snapshot)) append text
  pub frees : written_snapshot text ≡ Some Frees

written-frees : (write : Option SnapshotWrite) → spare_written write ≡ Some false → write ≡ Some Frees
written-frees (Some Frees) is = refl
written-frees (Some Takes) is = absurd (cc)
written-frees (Some Empties) is = absurd (cc)
written-frees None is = absurd (cc)

said-arms : (said : Result TriggerText TriggerFault) → spare_armed said ≡ Some false → ⊥
said-arms (Ok (AttachSnapshot spec)) is = cc
said-arms (Ok RemoveSnapshot) is = cc
said-arms (Ok Nothing) is = cc
said-arms (Ok (Hist spec)) is = cc
said-arms (Ok (RemoveHist spec)) is = cc
said-arms (Err fault) is = cc

armed-for : (found : Option NumberedEvent) (text : List ℕ) → spare_armed_for found text ≡ Some false → ⊥
armed-for None text is = cc
armed-for (Some k) text is = said-arms (said_of k.event text) is

pub set-freed : (instance : Option (List ℕ)) (past : List Request) (request : Request) → set_by instance (sets_spare past) request ≡ Some false
    → IsFreed instance request
set-freed instance past (WriteFile other (Some (OfInstance top.Snapshot)) append text) is = by (is_same instance other) refl is
  where
    by : (same : Bool) → is_same instance other ≡ same → (if same then spare_written (written_snapshot text) else None) ≡ Some false
        → IsFreed instance (WriteFile other (Some (OfInstance top.Snapshot)) append text)
    by true same h = record {
      append = append;
      text = text;
      is = ap (λ (o : Option (List ℕ)). let r : Request = WriteFile o (Some (OfInstance top.Snapshot)) append text in r) (sym (same-instance instance other same));
      frees = written-frees (written_snapshot text) h;
    }
    by false same h = absurd (none-some false h)
set-freed instance past (WriteFile other (Some (OfEvent name per_event.Trigger)) append text) is = by (is_same instance other) is
  where
    by : (same : Bool) → (if same then spare_armed_for (event_named name past) text else None) ≡ Some false
        → IsFreed instance (WriteFile other (Some (OfEvent name per_event.Trigger)) append text)
    by true h = absurd (armed-for (event_named name past) text h)
    by false h = absurd (none-some false h)
set-freed instance past (WriteFile other (Some file) append text) is = by (is_same instance other) is
  where
    by : (same : Bool) → (if same then sets_spare past file text else None) ≡ Some false
        → IsFreed instance (WriteFile other (Some file) append text)
    by true h = absurd (none-some false h)
    by false h = absurd (none-some false h)
set-freed instance past _ is = absurd (none-some false is)

-- it is freed only where no event has a trigger
freed-unused : (g : Config) (instance : Option (List ℕ)) (past : List Request) (append : Bool) (text : List ℕ)
    → IsOk (answer_with_room g past (WriteFile instance (Some (OfInstance top.Snapshot)) append text)) → written_snapshot text ≡ Some Frees → has_snapshot_trigger instance past ≡ false
unfolding snapshot_answer
freed-unused g instance past append text done frees =
    let asked : IsOk (spare_answer (has_snapshot_trigger instance past) (written_snapshot text)) =
    asked-done instance past (spare_answer (has_snapshot_trigger instance past) (written_snapshot text)) done in
    by (has_snapshot_trigger instance past) (subst (λ (w : Option SnapshotWrite). IsOk (spare_answer (has_snapshot_trigger instance past) w)) frees asked)
  where
    by : (used : Bool) → IsOk (spare_answer used (Some Frees)) → used ≡ false
    by true h = absurd (false≢true h)
    by false h = refl

-- ---- an event's trigger and the spare

-- an event has no trigger before it is declared, and then a spare is there while it has one
record IsArmed (instance : Option (List ℕ)) (past : List Request) (k : NumberedEvent) : Type 0 where
  untriggered : event_named k.event.name past ≡ None → snapshot_trigger_of instance k.event past ≡ None
  armed : (t : Trigger) → event_named k.event.name past ≡ Some k → snapshot_trigger_of instance k.event past ≡ Some t → has_spare instance past ≡ true

-- a setting after a request
abbrev pub left : {A : Type 0} → A → Bool → Option A → A → A
left default new set before = if new then default else unwrap_or set before

armed-after : (g : Config) (instance : Option (List ℕ)) (past : List Request) (request : Request) (k : NumberedEvent) → IsOk (answer_with_room g past request)
    → IsArmed instance past k → IsArmed instance (request ∷ past) k
armed-after g instance past request k done before = record { untriggered = untriggered; armed = armed }
  where
    set_trigger : Option (Option Trigger)
    set_trigger = set_by instance (sets_trigger k.event past) request

    set_spare : Option Bool
    set_spare = set_by instance (sets_spare past) request

    none_left : (new : Bool) → event_named k.event.name past ≡ None → left None new set_trigger (snapshot_trigger_of instance k.event past) ≡ None
    none_left true none = refl
    none_left false none =
        ap (λ (o : Option (Option Trigger)). unwrap_or o (snapshot_trigger_of instance k.event past)) (set-none g instance past request k.event done none)
        ∙ before.untriggered none

    untriggered : event_named k.event.name (request ∷ past) ≡ None → snapshot_trigger_of instance k.event (request ∷ past) ≡ None
    untriggered none =
        none_left (makes instance request) (named_in-fewer k.event.name (declared_events past) (option_to_list (declares request)) none)

    -- what the request frees, it frees where the event has no trigger
    freed : (t : Trigger) → event_named k.event.name past ≡ Some k → snapshot_trigger_of instance k.event past ≡ Some t → set_spare ≡ Some false → ⊥
    freed t there attached frees =
        let free = set-freed instance past request frees in
        let unused : has_snapshot_trigger instance past ≡ false =
        freed-unused g instance past free.append free.text (subst (λ (r : Request). IsOk (answer_with_room g past r)) free.is done) free.frees in
        let used : has_snapshot_trigger instance past ≡ true =
        named-passes (λ (event : Definition). is_some (snapshot_trigger_of instance event past)) past k.event.name k there (ap is_some attached) in
        true≢false (sym used ∙ unused)

    by_spare : (t : Trigger) → event_named k.event.name past ≡ Some k → snapshot_trigger_of instance k.event past ≡ Some t → (set : Option Bool) → set_spare ≡ set
        → unwrap_or set (has_spare instance past) ≡ true
    by_spare t there attached None is = before.armed t there attached
    by_spare t there attached (Some true) is = refl
    by_spare t there attached (Some false) is = absurd (freed t there attached is)

    by_trigger : (t : Trigger) → event_named k.event.name past ≡ Some k → (set : Option (Option Trigger)) → set_trigger ≡ set
        → unwrap_or set (snapshot_trigger_of instance k.event past) ≡ Some t → unwrap_or set_spare (has_spare instance past) ≡ true
    by_trigger t there None is h = by_spare t there h set_spare refl
    by_trigger t there (Some None) is h = absurd (none-some t h)
    by_trigger t there (Some (Some new)) is h =
        ap (λ (o : Option Bool). unwrap_or o (has_spare instance past)) (set-armed instance k past request new there is)

    by_life : (t : Trigger) → event_named k.event.name past ≡ Some k → (new : Bool) → makes instance request ≡ new
        → left None new set_trigger (snapshot_trigger_of instance k.event past) ≡ Some t → left false new set_spare (has_spare instance past) ≡ true
    by_life t there true new h = absurd (none-some t h)
    by_life t there false new h = by_trigger t there set_trigger refl h

    armed : (t : Trigger) → event_named k.event.name (request ∷ past) ≡ Some k → snapshot_trigger_of instance k.event (request ∷ past) ≡ Some t
        → has_spare instance (request ∷ past) ≡ true
    armed t there attached = by (event_named k.event.name past) refl
      where
        more : List Definition
        more = option_to_list (declares request)

        by : (old : Option NumberedEvent) → event_named k.event.name past ≡ old → has_spare instance (request ∷ past) ≡ true
        by None none = absurd (none-some t (sym (none_left (makes instance request) none) ∙ attached))
        by (Some old) was =
            let e : Some old ≡ Some k = sym (named_in-more k.event.name (declared_events past) more old was) ∙ there in
            by_life t (was ∙ e) (makes instance request) refl attached

armed-done : (g : Config) (past : List Request) (instance : Option (List ℕ)) (k : NumberedEvent) → AreDone g past → IsArmed instance past k
armed-done g [] instance k done = record { untriggered = λ none. refl; armed = λ t there attached. absurd (none-some t attached) }
armed-done g (request ∷ past) instance k done = armed-after g instance past request k done.0 (armed-done g past instance k done.1)

-- an event among the declared ones that passes a test
record IsPassed (test : Definition → Bool) (events : List Definition) : Type 0 where
  index : ℕ
  event : Definition
  inside : index < length events
  there : get_or events index event ≡ event
  passes : test event ≡ true

passed-in : (test : Definition → Bool) (events : List Definition) → list_any test events ≡ true → IsPassed test events
passed-in test [] is = absurd (cc)
passed-in test (event ∷ events) is = by (test event) refl is (passed-in test events)
  where
    by : (first : Bool) → test event ≡ first → (first || list_any test events) ≡ true → (list_any test events ≡ true → IsPassed test events)
        → IsPassed test (event ∷ events)
    by true here h rest = record { index = 0; event = event; inside = omega arith; there = refl; passes = here }
    by false here h rest =
        let found = rest h in
        record { index = suc found.index; event = found.event; inside = omega (arith, found.inside); there = found.there; passes = found.passes }

value_of-some : {A : Type 0} (o : Option A) (P : Type 0) → is_some o ≡ true → ((x : A) → o ≡ Some x → P) → P
value_of-some None P is then_P = absurd (cc)
value_of-some (Some x) P is then_P = then_P x refl

pub triggers_have_their_spare : TriggersHaveTheirSpare
triggers_have_their_spare g past instance done has =
    let events = declared_events past in
    let found = passed-in (λ (event : Definition). is_some (snapshot_trigger_of instance event past)) events has in
    let k : NumberedEvent = record { id = suc found.index; event = found.event } in
    let there : event_named found.event.name past ≡ Some k =
    subst (λ (event : Definition). event_named event.name past ≡ Some (let n : NumberedEvent = record { id = suc found.index; event = event } in n)) found.there
    (named_at events found.index found.event (done-events g past done).are found.inside) in
    value_of-some (snapshot_trigger_of instance found.event past) (has_spare instance past ≡ true) found.passes
    (λ t attached. (armed-done g past instance k done).armed t there attached)
