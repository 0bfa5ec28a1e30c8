-- What a request writes to the trigger file of one event, declared or not; and that each hist trigger is of a declared event.
use Rattle.std.proofs.Common.{◌≡◌, ℕ, Bool, true, false, not, ◌&&◌, if◌then◌else◌, List, [], ◌∷◌, ◌++◌, length, bytes_eq, Option, None, Some, option_map, unwrap_or, Result, Ok, Err, refl, sym, ap, ◌∙◌}
use Rattle.std.specs.List.{AllByRecursion, filter}
use Rattle.std.specs.Option.{option_to_list}
use Rattle.std.proofs.lemmas.Bool.{false≢true}
use Rattle.std.proofs.lemmas.Option.{none-some, same_Some}
use Rattle.std.proofs.lemmas.Slice.Eq.{bytes_eq-Decides}
use Rattle.trace_format.specs.Definitions.{Definition}
use Rattle.trace_trigger.specs.HistSpecs.{SpecSeen}
use Rattle.trace_trigger.specs.TriggerTexts.{said_of}
use Rattle.trace_trigger.specs.declared.fault.TriggerFault.{TriggerFault}
use Rattle.trace_trigger.specs.declared.trigger.TriggerText.{TriggerText}
use Rattle.trace_trigger.specs.declared.trigger.TriggerText.TheVariants.{Nothing, AttachSnapshot, RemoveSnapshot, Hist, RemoveHist}
use Rattle.trace_command.specs.Paths.{OfEvent}
use Rattle.trace_command.specs.declared.file_name.EventFile.TheVariants as per_event
use Rattle.trace_command.specs.Requests.{Request, WriteFile}
use Rattle.tracer_specification.specs.HistTriggers.{HistTrigger, Written, says_same, has_same, is_of, left_by, those_of, new_hist, hist_triggers, hists_said, written_for, written_to, hists_after}
use Rattle.tracer_specification.specs.Settings.{NumberedEvent, is_same, makes, set_by, event_named, declares, declared_events}
use Rattle.tracer_specification.specs.Triggers.{Trigger, written_trigger, sets_trigger, snapshot_trigger_of}
use Rattle.tracer_specification.proofs.Events.{index_of_id}
use Rattle.tracer_specification.proofs.LegalEvents.{named_in-more, named-is_numbered}

-- ---- names

pub bytes-differ : (one other : List ℕ) → bytes_eq one other ≡ false → bytes_eq other one ≡ false
bytes-differ one other differ = by (bytes_eq other one) refl
  where
    by : (same : Bool) → bytes_eq other one ≡ same → same ≡ false
    by true is = absurd (false≢true (sym differ ∙ (bytes_eq-Decides one other).1 (sym ((bytes_eq-Decides other one).0 is))))
    by false is = refl

-- ---- what a request writes to the trigger file of an event, declared or not

pub record OwnWritten : Type 0 where
  pub append : Bool
  pub text : List ℕ

abbrev pub own_written : Option (List ℕ) → Definition → Request → Option OwnWritten
own_written instance event (WriteFile other (Some (OfEvent name per_event.Trigger)) append text) =
    if is_same instance other && bytes_eq event.name name then Some (record { append = append; text = text }) else None
own_written instance event request = None

-- as what is written for a declared event
abbrev pub as_written : Definition → OwnWritten → Written
as_written event w = record { event = event; append = w.append; text = w.text }

-- an event is the one of its name
pub record IsNamed (past : List Request) (t : HistTrigger) : Type 0 where
  pub k : NumberedEvent
  pub there : event_named t.event.name past ≡ Some k
  pub event : k.event ≡ t.event

named-itself : (name : List ℕ) (past : List Request) (k : NumberedEvent) → event_named name past ≡ Some k → name ≡ k.event.name
named-itself name past k there =
    let numbered = named-is_numbered (declared_events past) name k there in
    let index = index_of_id (declared_events past) name k.id k.event numbered.named numbered.there in
    (bytes_eq-Decides name k.event.name).0 index.named

pub own-none : (instance : Option (List ℕ)) (event : Definition) (past : List Request) (request : Request) → own_written instance event request ≡ None
    → written_for event (written_to instance past request) ≡ None
own-none instance event past (WriteFile other (Some (OfEvent name per_event.Trigger)) append text) none =
    by (is_same instance other) (bytes_eq event.name name) (event_named name past) refl refl none
  where
    what : NumberedEvent → Written
    what k = record { event = k.event; append = append; text = text }

    by : (same named : Bool) (found : Option NumberedEvent) → bytes_eq event.name name ≡ named → event_named name past ≡ found
        → (if same && named then (let o : Option OwnWritten = Some (record { append = append; text = text }) in o) else None) ≡ None
        → written_for event (if same then option_map what found else None) ≡ None
    by true true found is there h = absurd (none-some _ (sym h))
    by true false None is there h = refl
    by true false (Some k) is there h =
        let names : name ≡ k.event.name = named-itself name past k there in
        let differ : bytes_eq k.event.name event.name ≡ false =
        ap (λ (n : List ℕ). bytes_eq n event.name) (sym names) ∙ bytes-differ event.name name is in
        ap (λ (b : Bool). if b then Some (what k) else None) differ
    by false named found is there h = refl
own-none instance event past _ none = refl

pub own-declared : (instance : Option (List ℕ)) (event : Definition) (past : List Request) (request : Request) (k : NumberedEvent)
    → event_named event.name past ≡ Some k → k.event ≡ event
    → written_for event (written_to instance past request) ≡ option_map (as_written event) (own_written instance event request)
own-declared instance event past (WriteFile other (Some (OfEvent name per_event.Trigger)) append text) k there same_event =
    by (is_same instance other) (bytes_eq event.name name) refl
  where
    what : NumberedEvent → Written
    what e = record { event = e.event; append = append; text = text }

    own : Option OwnWritten
    own = Some (record { append = append; text = text })

    by : (same named : Bool) → bytes_eq event.name name ≡ named
        → written_for event (if same then option_map what (event_named name past) else None) ≡ option_map (as_written event) (if same && named then own else None)
    by true true is =
        let names : event.name ≡ name = (bytes_eq-Decides event.name name).0 is in
        let found : event_named name past ≡ Some k = ap (λ (n : List ℕ). event_named n past) (sym names) ∙ there in
        let itself : bytes_eq k.event.name event.name ≡ true = (bytes_eq-Decides k.event.name event.name).1 (ap (λ (e : Definition). e.name) same_event) in
        ap (λ (o : Option NumberedEvent). written_for event (option_map what o)) found
        ∙ ap (λ (b : Bool). if b then Some (what k) else None) itself
        ∙ ap (λ (e : Definition). (let w : Option Written = Some (record { event = e; append = append; text = text }) in w)) same_event
    by true false is = other_name (event_named name past) refl
      where
        other_name : (found : Option NumberedEvent) → event_named name past ≡ found → written_for event (option_map what found) ≡ None
        other_name None at = refl
        other_name (Some e) at =
            let names : name ≡ e.event.name = named-itself name past e at in
            let differ : bytes_eq e.event.name event.name ≡ false =
            ap (λ (n : List ℕ). bytes_eq n event.name) (sym names) ∙ bytes-differ event.name name is in
            ap (λ (b : Bool). if b then Some (what e) else None) differ
    by false named is = refl
own-declared instance event past _ k there same_event = refl

-- ---- each is of an event that is declared

named-later : (past : List Request) (request : Request) (hists : List HistTrigger) → AllByRecursion (IsNamed past) hists
    → AllByRecursion (IsNamed (request ∷ past)) hists
named-later past request [] all = tt
named-later past request (t ∷ hists) (first, all) = (
  record {
    k = first.k;
    there = named_in-more t.event.name (declared_events past) (option_to_list (declares request)) first.k first.there;
    event = first.event;
  },
  named-later past request hists all,
)

named-filter : (past : List Request) (test : HistTrigger → Bool) (hists : List HistTrigger) → AllByRecursion (IsNamed past) hists
    → AllByRecursion (IsNamed past) (filter test hists)
named-filter past test [] all = tt
named-filter past test (t ∷ hists) (first, all) = by (test t) (named-filter past test hists all)
  where
    by : (keeps : Bool) → AllByRecursion (IsNamed past) (filter test hists)
        → AllByRecursion (IsNamed past) (if keeps then t ∷ filter test hists else filter test hists)
    by true rest = (first, rest)
    by false rest = rest

named-push : (past : List Request) (hists : List HistTrigger) (new : HistTrigger) → AllByRecursion (IsNamed past) hists → IsNamed past new
    → AllByRecursion (IsNamed past) (hists ++ new ∷ [])
named-push past [] new all is = (is, tt)
named-push past (t ∷ hists) new (first, all) is = (first, named-push past hists new all is)

named-said : (past : List Request) (number : ℕ) (event : Definition) (hists : List HistTrigger) (said : Result TriggerText TriggerFault)
    → AllByRecursion (IsNamed past) hists → ((all : List HistTrigger) (spec : SpecSeen) → IsNamed past (new_hist number event all spec))
    → AllByRecursion (IsNamed past) (hists_said number event hists said)
named-said past number event hists (Ok (Hist spec)) all is = by (has_same spec (those_of event hists))
  where
    by : (same : Bool) → AllByRecursion (IsNamed past) (if same then hists else hists ++ new_hist number event hists spec ∷ [])
    by true = all
    by false = named-push past hists (new_hist number event hists spec) all (is hists spec)
named-said past number event hists (Ok (RemoveHist spec)) all is = named-filter past (λ t. not (is_of event t && says_same spec t)) hists all
named-said past number event hists (Ok (AttachSnapshot spec)) all is = all
named-said past number event hists (Ok RemoveSnapshot) all is = all
named-said past number event hists (Ok Nothing) all is = all
named-said past number event hists (Err fault) all is = all

-- what is written is for an event that is declared
written-named : (instance : Option (List ℕ)) (past : List Request) (request : Request) (w : Written) → written_to instance past request ≡ Some w
    → (number : ℕ) (all : List HistTrigger) (spec : SpecSeen) → IsNamed past (new_hist number w.event all spec)
written-named instance past (WriteFile other (Some (OfEvent name per_event.Trigger)) append text) w is number all spec =
    by (is_same instance other) (event_named name past) refl is
  where
    what : NumberedEvent → Written
    what k = record { event = k.event; append = append; text = text }

    by : (same : Bool) (found : Option NumberedEvent) → event_named name past ≡ found → (if same then option_map what found else None) ≡ Some w
        → IsNamed past (new_hist number w.event all spec)
    by true None there h = absurd (none-some w h)
    by true (Some k) there h =
        let same : what k ≡ w = same_Some _ _ h in
        let event : k.event ≡ w.event = ap (λ (v : Written). v.event) same in record {
          k = k;
          there = ap (λ (n : List ℕ). event_named n past) (sym (named-itself name past k there ∙ ap (λ (e : Definition). e.name) event)) ∙ there;
          event = event;
        }
    by false found there h = absurd (none-some w h)
written-named instance past _ w is number all spec = absurd (none-some w is)

pub all-named : (instance : Option (List ℕ)) (past : List Request) → AllByRecursion (IsNamed past) (hist_triggers instance past)
all-named instance [] = tt
all-named instance (request ∷ past) =
    named-later past request (hist_triggers instance (request ∷ past))
    (by (makes instance request) (written_to instance past request) refl (all-named instance past))
  where
    left : (event : Definition) (append : Bool) → AllByRecursion (IsNamed past) (hist_triggers instance past)
        → AllByRecursion (IsNamed past) (left_by event append (hist_triggers instance past))
    left event true before = before
    left event false before = named-filter past (λ t. not (is_of event t)) (hist_triggers instance past) before

    by : (new : Bool) (written : Option Written) → written_to instance past request ≡ written
        → AllByRecursion (IsNamed past) (hist_triggers instance past)
        → AllByRecursion (IsNamed past) (if new then [] else hists_after (length past) written (hist_triggers instance past))
    by true written is before = tt
    by false None is before = before
    by false (Some w) is before =
        named-said past (length past) w.event (left_by w.event w.append (hist_triggers instance past)) (said_of w.event w.text)
        (left w.event w.append before) (written-named instance past request w is (length past))

-- ---- the trigger for snapshots after a request

abbrev pub trigger_after : Definition → ℕ → Option OwnWritten → Option Trigger → Option Trigger
trigger_after event number None attached = attached
trigger_after event number (Some w) attached = unwrap_or (written_trigger number (said_of event w.text)) attached

pub snapshot_trigger_of-after : (instance : Option (List ℕ)) (event : Definition) (past : List Request) (request : Request) → makes instance request ≡ false
    → snapshot_trigger_of instance event (request ∷ past) ≡ trigger_after event (length past) (own_written instance event request) (snapshot_trigger_of instance event past)
snapshot_trigger_of-after instance event past request alive = rw alive (set-after request)
  where
    attached : Option Trigger
    attached = snapshot_trigger_of instance event past

    set-after : (r : Request) → unwrap_or (set_by instance (sets_trigger event past) r) attached ≡ trigger_after event (length past) (own_written instance event r) attached
    set-after (WriteFile other (Some (OfEvent name per_event.Trigger)) append text) = by (is_same instance other) (bytes_eq event.name name)
      where
        by : (same named : Bool)
            → unwrap_or (if same then (if named then written_trigger (length past) (said_of event text) else None) else None) attached
            ≡ trigger_after event (length past) (if same && named then Some (record { append = append; text = text }) else None) attached
        by true true = refl
        by true false = refl
        by false named = refl
    set-after (WriteFile other (Some file) append text) = by (is_same instance other)
      where
        by : (same : Bool) → unwrap_or (if same then sets_trigger event past file text else None) attached ≡ attached
        by true = refl
        by false = refl
    set-after r = refl
