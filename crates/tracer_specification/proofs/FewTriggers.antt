-- What is written to an event's trigger file and done; and that an event has few triggers.
use Rattle.std.proofs.Common.{◌≡◌, ℕ, ◌+◌, ◌<◌, ◌≤◌, nat_lt, Bool, true, false, not, ◌&&◌, if◌then◌else◌, List, [], ◌∷◌, ◌++◌, length, bytes_eq, Option, None, Some, option_map, unwrap_or, IsOk, Result, Ok, Err, refl, sym, ap, ◌∙◌, subst, arith, ltb-true}
use Rattle.std.specs.List.{filter}
use Rattle.std.specs.Option.{option_to_list}
use Rattle.std.proofs.lemmas.Bool.{false≢true}
use Rattle.std.proofs.lemmas.List.{length-append}
use Rattle.std.proofs.lemmas.List.Filters.{length-filter_both}
use Rattle.std.proofs.lemmas.Option.{none-some, same_Some}
use Rattle.std.proofs.lemmas.Slice.Eq.{bytes_eq-Decides}
use Rattle.trace_format.specs.Definitions.{Definition}
use Rattle.trace_trigger.specs.HistSpecs.{SpecSeen}
use Rattle.trace_trigger.specs.declared.spec.Action.{Action}
use Rattle.trace_trigger.specs.declared.spec.Action.TheVariants as action
use Rattle.trace_trigger.specs.TriggerTexts.{said_of}
use Rattle.trace_trigger.specs.declared.fault.TriggerFault.{TriggerFault}
use Rattle.trace_trigger.specs.declared.trigger.TriggerText.{TriggerText}
use Rattle.trace_trigger.specs.declared.trigger.TriggerText.TheVariants.{Nothing, AttachSnapshot, RemoveSnapshot, Hist, RemoveHist}
use Rattle.trace_command.specs.Paths.{OfEvent}
use Rattle.trace_command.specs.Requests.{Request, WriteFile}
use Rattle.trace_command.specs.declared.command.Config.{Config}
use Rattle.trace_command.specs.declared.command.Reply.{Reply}
use Rattle.trace_command.specs.declared.refusal.Refusal.{Refusal}
use Rattle.trace_command.specs.declared.file_name.EventFile.TheVariants as per_event
use Rattle.tracer_specification.specs.History.{answer_with_room, fitting_answer, missing_event, unless_refused, named_trigger_answer, trigger_answer, said_answer, new_hist_answer, room_answer, trigger_count}
use Rattle.tracer_specification.specs.HistTriggers.{HistTrigger, Written, fits_that, has_same, hist_triggers, hists_of, kept_by, left_by, named_by, new_hist, says_same, written_to}
use Rattle.tracer_specification.specs.Laws.{AtMostFourTriggers}
use Rattle.tracer_specification.specs.Pasts.{AreDone}
use Rattle.tracer_specification.specs.Settings.{NumberedEvent, is_same, makes, event_named, declares, declared_events}
use Rattle.tracer_specification.specs.Triggers.{Trigger, written_trigger, snapshot_trigger_of}
use Rattle.tracer_specification.proofs.EventHists.{hists_of-after, hists_of-made, own_after, own_said}
use Rattle.tracer_specification.proofs.Events.{named_in-fewer, index_of_id}
use Rattle.tracer_specification.proofs.LegalEvents.{asked-done, named_in-more, named-is_numbered}
use Rattle.tracer_specification.proofs.OwnFiles.{OwnWritten, as_written, own-declared, own-none, own_written, trigger_after, snapshot_trigger_of-after}
use Rattle.tracer_specification.proofs.Spares.{same-instance}

-- ---- what is written to a trigger file and done

-- what a text that is written for an event is answered
abbrev pub said_here : Option (List ℕ) → List Request → Definition → Bool → List ℕ → Result Reply Refusal
said_here instance past event append text =
    said_answer append (snapshot_trigger_of instance event past) (kept_by append (hists_of instance event past))
    (left_by event append (hist_triggers instance past)) (said_of event text)

pub written-said : (g : Config) (instance : Option (List ℕ)) (past : List Request) (request : Request) (k : NumberedEvent) (w : OwnWritten)
    → IsOk (answer_with_room g past request) → event_named k.event.name past ≡ Some k → own_written instance k.event request ≡ Some w
    → IsOk (said_here instance past k.event w.append w.text)
unfolding trigger_answer
written-said g instance past (WriteFile other (Some (OfEvent name per_event.Trigger)) append text) k w done there is =
    by (is_same instance other) (bytes_eq k.event.name name) refl refl is
  where
    asked : IsOk (unless_refused (missing_event past name) (named_trigger_answer other past append text (event_named name past)))
    asked = asked-done other past (unless_refused (missing_event past name) (named_trigger_answer other past append text (event_named name past))) done

    by : (same named : Bool) → is_same instance other ≡ same → bytes_eq k.event.name name ≡ named
        → (if same && named then Some (record { append = append; text = text }) else None) ≡ Some w
        → IsOk (said_here instance past k.event w.append w.text)
    by true true same named h =
        let here : other ≡ instance = sym (same-instance instance other same) in
        let e : k.event.name ≡ name = (bytes_eq-Decides k.event.name name).0 named in
        let found : event_named name past ≡ Some k = ap (λ (n : List ℕ). event_named n past) (sym e) ∙ there in
        let told : IsOk (trigger_answer other past append text k.event) = rw found at asked in
        let told_here : IsOk (trigger_answer instance past append text k.event) =
        subst (λ (i : Option (List ℕ)). IsOk (trigger_answer i past append text k.event)) here told in
        let what : record { append = append; text = text } ≡ w = same_Some _ _ h in
        subst (λ (v : OwnWritten). IsOk (said_here instance past k.event v.append v.text))
        what told_here
    by true false same named h = absurd (none-some w h)
    by false named same other_named h = absurd (none-some w h)
written-said g instance past _ k w done there is = absurd (none-some w is)

-- the same of what is written, whatever event it is for
pub said-of_written : (g : Config) (instance : Option (List ℕ)) (past : List Request) (request : Request) (w : Written)
    → IsOk (answer_with_room g past request) → written_to instance past request ≡ Some w → IsOk (said_here instance past w.event w.append w.text)
unfolding trigger_answer
said-of_written g instance past (WriteFile other (Some (OfEvent name per_event.Trigger)) append text) w done is =
    by (is_same instance other) (event_named name past) refl refl is
  where
    what : NumberedEvent → Written
    what k = record { event = k.event; append = append; text = text }

    asked : IsOk (unless_refused (missing_event past name) (named_trigger_answer other past append text (event_named name past)))
    asked = asked-done other past (unless_refused (missing_event past name) (named_trigger_answer other past append text (event_named name past))) done

    by : (same : Bool) (found : Option NumberedEvent) → is_same instance other ≡ same → event_named name past ≡ found
        → (if same then option_map what found else None) ≡ Some w → IsOk (said_here instance past w.event w.append w.text)
    by true None same there h = absurd (none-some w h)
    by true (Some k) same there h =
        let here : other ≡ instance = sym (same-instance instance other same) in
        let told : IsOk (trigger_answer other past append text k.event) = rw there at asked in
        let told_here : IsOk (trigger_answer instance past append text k.event) =
        subst (λ (i : Option (List ℕ)). IsOk (trigger_answer i past append text k.event)) here told in
        let is_that : what k ≡ w = same_Some _ _ h in
        subst (λ (v : Written). IsOk (said_here instance past v.event v.append v.text)) is_that told_here
    by false found same there h = absurd (none-some w h)
said-of_written g instance past _ w done is = absurd (none-some w is)

-- nothing is written for an event that is not declared
pub written-none : (g : Config) (instance : Option (List ℕ)) (past : List Request) (request : Request) (event : Definition)
    → IsOk (answer_with_room g past request) → event_named event.name past ≡ None → own_written instance event request ≡ None
written-none g instance past (WriteFile other (Some (OfEvent name per_event.Trigger)) append text) event done none =
    by (is_same instance other) (bytes_eq event.name name) refl
  where
    asked : IsOk (unless_refused (missing_event past name) (named_trigger_answer other past append text (event_named name past)))
    asked = asked-done other past (unless_refused (missing_event past name) (named_trigger_answer other past append text (event_named name past))) done

    what : OwnWritten
    what = record { append = append; text = text }

    by : (same named : Bool) → bytes_eq event.name name ≡ named → (if same && named then Some what else None) ≡ None
    by true true named =
        let e : event.name ≡ name = (bytes_eq-Decides event.name name).0 named in
        let found : event_named name past ≡ None = ap (λ (n : List ℕ). event_named n past) (sym e) ∙ none in
        absurd (let h : false ≡ true = rw found at asked in false≢true h)
    by true false named = refl
    by false named other_named = refl
written-none g instance past _ event done none = refl

-- ---- how many there are

abbrev IsFew : Option Trigger → List HistTrigger → Type 0
IsFew attached hists = trigger_count attached hists ≤ 4

few-same : (attached other : Option Trigger) (hists others : List HistTrigger) → attached ≡ other → hists ≡ others → IsFew other others → IsFew attached hists
few-same attached other hists others triggers lists few =
    subst (λ (l : List HistTrigger). IsFew attached l) (sym lists) (subst (λ (t : Option Trigger). IsFew t others) (sym triggers) few)

count-more : (attached : Option Trigger) (hists : List HistTrigger) (new : HistTrigger)
    → trigger_count attached (hists ++ new ∷ []) ≡ trigger_count attached hists + 1
count-more None hists new = length-append hists (new ∷ [])
count-more (Some t) hists new = ap (λ (n : ℕ). n + 1) (length-append hists (new ∷ []))

count-kept : (append : Bool) (attached : Option Trigger) (hists : List HistTrigger) → IsFew attached hists → IsFew attached (kept_by append hists)
count-kept true attached hists few = few
count-kept false None hists few = omega arith
count-kept false (Some t) hists few = omega arith

count-left : (attached : Option Trigger) (hists : List HistTrigger) (spec : SpecSeen) → IsFew attached hists
    → IsFew attached (filter (λ t. not (says_same spec t)) hists)
count-left attached hists spec few = by attached few
  where
    both : length (filter (says_same spec) hists) + length (filter (λ t. not (says_same spec t)) hists) ≡ length hists
    both = length-filter_both (says_same spec) (λ t. not (says_same spec t)) (λ t. refl) hists

    by : (a : Option Trigger) → IsFew a hists → IsFew a (filter (λ t. not (says_same spec t)) hists)
    by None h = omega (arith, h, both)
    by (Some t) h = omega (arith, h, both)

-- where one more is done there was room
room-had : (attached : Option Trigger) (hists : List HistTrigger) → IsOk (room_answer attached hists) → trigger_count attached hists < 4
room-had attached hists done = by (nat_lt (trigger_count attached hists) 4) refl
  where
    by : (room : Bool) → nat_lt (trigger_count attached hists) 4 ≡ room → trigger_count attached hists < 4
    by true is = ltb-true (trigger_count attached hists) 4 is
    by false is = absurd (let h : false ≡ true = rw is at done in false≢true h)

-- and it fits the table that it names
fitted : (fits : Bool) (answered : Result Reply Refusal) → IsOk (fitting_answer fits answered) → IsOk answered × (fits ≡ true)
fitted true (Ok reply) done = (done, refl)
fitted false (Ok reply) done = absurd (cc)
fitted fits (Err refusal) done = absurd (cc)

pub new-was_taken : (attached : Option Trigger) (hists : List HistTrigger) (fits : Bool) (asked : Action)
    → IsOk (new_hist_answer attached hists fits asked) → IsOk (room_answer attached hists) × (fits ≡ true)
new-was_taken attached hists fits action.Attach done = fitted fits (room_answer attached hists) done
new-was_taken attached hists fits action.Pause done = fitted fits (room_answer attached hists) done
new-was_taken attached hists fits action.Continue done = absurd (cc)
new-was_taken attached hists fits action.Clear done = absurd (cc)

few-said : (append : Bool) (number : ℕ) (event : Definition) (attached : Option Trigger) (all hists : List HistTrigger)
    (said : Result TriggerText TriggerFault) → IsFew attached hists
    → IsOk (said_answer append attached hists all said) → IsFew (unwrap_or (written_trigger number said) attached) (own_said number event all hists said)
few-said append number event attached all hists (Err fault) few done = absurd (cc)
few-said append number event attached all hists (Ok Nothing) few done = few
few-said append number event None all hists (Ok (AttachSnapshot spec)) few done = let less = room-had None hists done in omega (arith, less)
few-said append number event (Some t) all hists (Ok (AttachSnapshot spec)) few done = absurd (cc)
few-said append number event None all hists (Ok RemoveSnapshot) few done = absurd (cc)
few-said append number event (Some t) all hists (Ok RemoveSnapshot) few done = omega (arith, few)
few-said append number event attached all hists (Ok (Hist spec)) few done = by (has_same spec hists) refl
  where
    new : HistTrigger
    new = new_hist number event all spec

    fits : Bool
    fits = fits_that spec (named_by spec all)

    by : (same : Bool) → has_same spec hists ≡ same → IsFew attached (if same then hists else hists ++ new ∷ [])
    by true is = few
    by false is =
        let asked : IsOk (new_hist_answer attached hists fits spec.action) = rw is at done in
        let less = room-had attached hists (new-was_taken attached hists fits spec.action asked).0 in
        let more = count-more attached hists new in
        omega (arith, less, more)
few-said append number event attached all hists (Ok (RemoveHist spec)) few done = count-left attached hists spec few

-- an event has no triggers before it is declared, and few after that
record AreFew (instance : Option (List ℕ)) (past : List Request) (k : NumberedEvent) : Type 0 where
  no_trigger : event_named k.event.name past ≡ None → snapshot_trigger_of instance k.event past ≡ None
  no_hists : event_named k.event.name past ≡ None → hists_of instance k.event past ≡ []
  few : event_named k.event.name past ≡ Some k → IsFew (snapshot_trigger_of instance k.event past) (hists_of instance k.event past)

few-after : (g : Config) (instance : Option (List ℕ)) (past : List Request) (request : Request) (k : NumberedEvent) → IsOk (answer_with_room g past request)
    → AreFew instance past k → AreFew instance (request ∷ past) k
few-after g instance past request k done before = record { no_trigger = no_trigger; no_hists = no_hists; few = few }
  where
    written : Option OwnWritten
    written = own_written instance k.event request

    more : List Definition
    more = option_to_list (declares request)

    none_left : (new : Bool) → makes instance request ≡ new → event_named k.event.name past ≡ None → snapshot_trigger_of instance k.event (request ∷ past) ≡ None
    none_left true new none = rw new refl
    none_left false new none =
        snapshot_trigger_of-after instance k.event past request new
        ∙ ap (λ (o : Option OwnWritten). trigger_after k.event (length past) o (snapshot_trigger_of instance k.event past)) (written-none g instance past request k.event done none)
        ∙ before.no_trigger none

    no_hists_left : (new : Bool) → makes instance request ≡ new → event_named k.event.name past ≡ None → hists_of instance k.event (request ∷ past) ≡ []
    no_hists_left true new none = hists_of-made instance k.event past request new
    no_hists_left false new none =
        hists_of-after instance k.event past request new
        ∙ ap (λ (o : Option Written). own_after (length past) (hist_triggers instance past) o (hists_of instance k.event past))
        (own-none instance k.event past request (written-none g instance past request k.event done none))
        ∙ before.no_hists none

    fewer : event_named k.event.name (request ∷ past) ≡ None → event_named k.event.name past ≡ None
    fewer none = named_in-fewer k.event.name (declared_events past) more none

    no_trigger : event_named k.event.name (request ∷ past) ≡ None → snapshot_trigger_of instance k.event (request ∷ past) ≡ None
    no_trigger none = none_left (makes instance request) refl (fewer none)

    no_hists : event_named k.event.name (request ∷ past) ≡ None → hists_of instance k.event (request ∷ past) ≡ []
    no_hists none = no_hists_left (makes instance request) refl (fewer none)

    by_written : event_named k.event.name past ≡ Some k → (o : Option OwnWritten) → written ≡ o
        → IsFew (trigger_after k.event (length past) o (snapshot_trigger_of instance k.event past))
        (own_after (length past) (hist_triggers instance past) (option_map (as_written k.event) o) (hists_of instance k.event past))
    by_written there None is = before.few there
    by_written there (Some w) is =
        few-said w.append (length past) k.event (snapshot_trigger_of instance k.event past) (left_by k.event w.append (hist_triggers instance past))
        (kept_by w.append (hists_of instance k.event past)) (said_of k.event w.text)
        (count-kept w.append (snapshot_trigger_of instance k.event past) (hists_of instance k.event past) (before.few there))
        (written-said g instance past request k w done there is)

    by_life : event_named k.event.name past ≡ Some k → (new : Bool) → makes instance request ≡ new
        → IsFew (snapshot_trigger_of instance k.event (request ∷ past)) (hists_of instance k.event (request ∷ past))
    by_life there true new = rw new (omega arith)
    by_life there false new =
        few-same (snapshot_trigger_of instance k.event (request ∷ past)) (trigger_after k.event (length past) written (snapshot_trigger_of instance k.event past))
        (hists_of instance k.event (request ∷ past))
        (own_after (length past) (hist_triggers instance past) (option_map (as_written k.event) written) (hists_of instance k.event past))
        (snapshot_trigger_of-after instance k.event past request new)
        (hists_of-after instance k.event past request new
        ∙ ap (λ (o : Option Written). own_after (length past) (hist_triggers instance past) o (hists_of instance k.event past))
        (own-declared instance k.event past request k there refl))
        (by_written there written refl)

    few : event_named k.event.name (request ∷ past) ≡ Some k → IsFew (snapshot_trigger_of instance k.event (request ∷ past)) (hists_of instance k.event (request ∷ past))
    few there = by (event_named k.event.name past) refl
      where
        by : (old : Option NumberedEvent) → event_named k.event.name past ≡ old
            → IsFew (snapshot_trigger_of instance k.event (request ∷ past)) (hists_of instance k.event (request ∷ past))
        by None none =
            few-same (snapshot_trigger_of instance k.event (request ∷ past)) None (hists_of instance k.event (request ∷ past)) []
            (none_left (makes instance request) refl none) (no_hists_left (makes instance request) refl none) (omega arith)
        by (Some old) was =
            let e : Some old ≡ Some k = sym (named_in-more k.event.name (declared_events past) more old was) ∙ there in
            by_life (was ∙ e) (makes instance request) refl

few-done : (g : Config) (past : List Request) (instance : Option (List ℕ)) (k : NumberedEvent) → AreDone g past → AreFew instance past k
few-done g [] instance k done = record { no_trigger = λ none. refl; no_hists = λ none. refl; few = λ there. omega arith }
few-done g (request ∷ past) instance k done = few-after g instance past request k done.0 (few-done g past instance k done.1)

-- an event has few triggers where each request was done
pub few-triggers : (g : Config) (past : List Request) (instance : Option (List ℕ)) (name : List ℕ) (k : NumberedEvent) → AreDone g past
    → event_named name past ≡ Some k → trigger_count (snapshot_trigger_of instance k.event past) (hists_of instance k.event past) ≤ 4
few-triggers g past instance name k done there =
    let numbered = named-is_numbered (declared_events past) name k there in
    let index = index_of_id (declared_events past) name k.id k.event numbered.named numbered.there in
    let same : name ≡ k.event.name = (bytes_eq-Decides name k.event.name).0 index.named in
    (few-done g past instance k done).few (subst (λ (n : List ℕ). event_named n past ≡ Some k) same there)

pub at_most_four_triggers : AtMostFourTriggers
at_most_four_triggers g past instance name k done there = few-triggers g past instance name k done there
