-- The hist triggers of one event, one request later: only what is written to the event's own trigger file changes which there are.
use Rattle.std.proofs.Common.{◌≡◌, ℕ, suc, Bool, true, false, not, ◌&&◌, if◌then◌else◌, List, [], ◌∷◌, ◌++◌, length, bytes_eq, Option, None, Some, Result, Ok, Err, refl, sym, ap, ◌∙◌, append-nil}
use Rattle.std.specs.List.{filter}
use Rattle.std.proofs.lemmas.Bool.{false≢true}
use Rattle.std.proofs.lemmas.List.Elements.{filter-append}
use Rattle.std.proofs.lemmas.Slice.Eq.{bytes_eq-Decides}
use Rattle.trace_format.specs.Definitions.{Definition}
use Rattle.trace_trigger.specs.TriggerTexts.{said_of}
use Rattle.trace_trigger.specs.declared.fault.TriggerFault.{TriggerFault}
use Rattle.trace_trigger.specs.declared.trigger.TriggerText.{TriggerText}
use Rattle.trace_trigger.specs.declared.trigger.TriggerText.TheVariants.{Nothing, AttachSnapshot, RemoveSnapshot, Hist, RemoveHist}
use Rattle.trace_command.specs.Requests.{Request}
use Rattle.tracer_specification.specs.HistTriggers.{HistTrigger, Written, has_same, hist_triggers, hists_after, hists_of, hists_said, is_of, kept_by, left_by, new_hist, says_same, those_of, written_for, written_to}
use Rattle.tracer_specification.specs.Settings.{makes}
use Rattle.tracer_specification.proofs.OwnFiles.{bytes-differ}
use Rattle.tracer_specification.proofs.Members.{in-each}
use Rattle.tracer_specification.proofs.Tables.{AreApart, AreMadeBefore, IsApart, IsBefore, all-filter, all-push, apart-filter, apart-push, made-later, new-apart, new-before}

-- ---- what becomes of an event's own hist triggers

-- after a text that is written for the event, where these are left of all and of its own
abbrev pub own_said : ℕ → Definition → List HistTrigger → List HistTrigger → Result TriggerText TriggerFault → List HistTrigger
own_said number event all hists (Ok (Hist spec)) = if has_same spec hists then hists else hists ++ new_hist number event all spec ∷ []
own_said number event all hists (Ok (RemoveHist spec)) = filter (λ t. not (says_same spec t)) hists
own_said number event all hists said = hists

-- after the request of this number, which writes this for the event, if anything, where these were there of all and of its own
abbrev pub own_after : ℕ → List HistTrigger → Option Written → List HistTrigger → List HistTrigger
own_after number all None hists = hists
own_after number all (Some w) hists = own_said number w.event (left_by w.event w.append all) (kept_by w.append hists) (said_of w.event w.text)

-- ---- lists

-- those that pass one test pass the other
filter-kept : (p q : HistTrigger → Bool) → ((t : HistTrigger) → p t ≡ true → q t ≡ true) → (hists : List HistTrigger) → filter p (filter q hists) ≡ filter p hists
filter-kept p q also [] = refl
filter-kept p q also (t ∷ hists) = by (p t) (q t) refl refl (filter-kept p q also hists)
  where
    rest : List HistTrigger
    rest = filter p (filter q hists)

    keep : (passes : Bool) → p t ≡ passes → filter p (t ∷ filter q hists) ≡ (if passes then t ∷ rest else rest)
    keep passes is = ap (λ (b : Bool). if b then t ∷ rest else rest) is

    by : (one other : Bool) → p t ≡ one → q t ≡ other → rest ≡ filter p hists
        → filter p (if other then t ∷ filter q hists else filter q hists) ≡ (if one then t ∷ filter p hists else filter p hists)
    by true true is passes same = keep true is ∙ ap (λ (l : List HistTrigger). t ∷ l) same
    by true false is fails same = absurd (false≢true (sym fails ∙ also t is))
    by false true is passes same = keep false is ∙ same
    by false false is fails same = same

-- those that pass one test fail the other
filter-none : (p q : HistTrigger → Bool) → ((t : HistTrigger) → p t ≡ true → q t ≡ false) → (hists : List HistTrigger) → filter p (filter q hists) ≡ []
filter-none p q never [] = refl
filter-none p q never (t ∷ hists) = by (p t) (q t) refl refl (filter-none p q never hists)
  where
    by : (one other : Bool) → p t ≡ one → q t ≡ other → filter p (filter q hists) ≡ []
        → filter p (if other then t ∷ filter q hists else filter q hists) ≡ []
    by true true is passes rest = absurd (false≢true (sym (never t is) ∙ passes))
    by false true is passes rest = ap (λ (b : Bool). if b then t ∷ filter p (filter q hists) else filter p (filter q hists)) is ∙ rest
    by one false is fails rest = rest

-- the order of two tests, of which the second may know that the first is passed
filter-swap : (p q r : HistTrigger → Bool) → ((t : HistTrigger) → p t ≡ true → q t ≡ r t) → (hists : List HistTrigger)
    → filter p (filter q hists) ≡ filter r (filter p hists)
filter-swap p q r agree [] = refl
filter-swap p q r agree (t ∷ hists) = by (p t) (q t) refl refl (filter-swap p q r agree hists)
  where
    inner : (other : Bool) → q t ≡ other → p t ≡ true → filter p (filter q hists) ≡ filter r (filter p hists)
        → filter p (if other then t ∷ filter q hists else filter q hists) ≡ filter r (t ∷ filter p hists)
    inner true passes is same =
        ap (λ (b : Bool). if b then t ∷ filter p (filter q hists) else filter p (filter q hists)) is
        ∙ (λ i. t ∷ same i)
        ∙ sym (ap (λ (b : Bool). if b then t ∷ filter r (filter p hists) else filter r (filter p hists)) (sym (agree t is) ∙ passes))
    inner false fails is same =
        same ∙ sym (ap (λ (b : Bool). if b then t ∷ filter r (filter p hists) else filter r (filter p hists)) (sym (agree t is) ∙ fails))

    by : (one other : Bool) → p t ≡ one → q t ≡ other → filter p (filter q hists) ≡ filter r (filter p hists)
        → filter p (if other then t ∷ filter q hists else filter q hists) ≡ filter r (if one then t ∷ filter p hists else filter p hists)
    by true other is at same = inner other at is same
    by false true is at same = ap (λ (b : Bool). if b then t ∷ filter p (filter q hists) else filter p (filter q hists)) is ∙ same
    by false false is at same = same

-- ---- names

own-name : (event : Definition) → bytes_eq event.name event.name ≡ true
own-name event = (bytes_eq-Decides event.name event.name).1 refl

-- a trigger of one event is none of another
other-event : (one other : Definition) → bytes_eq one.name other.name ≡ false → (t : HistTrigger) → is_of other t ≡ true → is_of one t ≡ false
other-event one other differ t is =
    let names : other.name ≡ t.event.name = (bytes_eq-Decides other.name t.event.name).0 is in
    ap (bytes_eq one.name) (sym names) ∙ differ

-- ---- a text for the event

pub own-left : (event : Definition) (append : Bool) (hists : List HistTrigger) → those_of event (left_by event append hists) ≡ kept_by append (those_of event hists)
own-left event true hists = refl
own-left event false hists = filter-none (is_of event) (λ t. not (is_of event t)) (λ t is. ap not is) hists

and-of : (b c : Bool) → b ≡ true → not (b && c) ≡ not c
and-of b c is = ap (λ (a : Bool). not (a && c)) is

said-own : (number : ℕ) (event : Definition) (hists : List HistTrigger) (said : Result TriggerText TriggerFault)
    → those_of event (hists_said number event hists said) ≡ own_said number event hists (those_of event hists) said
said-own number event hists (Ok (Hist spec)) = by (has_same spec (those_of event hists))
  where
    new : HistTrigger
    new = new_hist number event hists spec

    pushed : those_of event (hists ++ new ∷ []) ≡ those_of event hists ++ new ∷ []
    pushed =
        filter-append (is_of event) hists (new ∷ [])
        ∙ ap (λ (b : Bool). those_of event hists ++ (if b then new ∷ [] else [])) (own-name event)

    by : (same : Bool) → those_of event (if same then hists else hists ++ new ∷ []) ≡ (if same then those_of event hists else those_of event hists ++ new ∷ [])
    by true = refl
    by false = pushed
said-own number event hists (Ok (RemoveHist spec)) =
    filter-swap (is_of event) (λ t. not (is_of event t && says_same spec t)) (λ t. not (says_same spec t))
    (λ t is. and-of (is_of event t) (says_same spec t) is) hists
said-own number event hists (Ok (AttachSnapshot trigger)) = refl
said-own number event hists (Ok RemoveSnapshot) = refl
said-own number event hists (Ok Nothing) = refl
said-own number event hists (Err fault) = refl

-- ---- a text for another event

left-other : (other event : Definition) (append : Bool) (hists : List HistTrigger) → bytes_eq other.name event.name ≡ false
    → those_of event (left_by other append hists) ≡ those_of event hists
left-other other event true hists differ = refl
left-other other event false hists differ =
    filter-kept (is_of event) (λ t. not (is_of other t)) (λ t is. ap not (other-event other event differ t is)) hists

said-other : (number : ℕ) (other event : Definition) (hists : List HistTrigger) (said : Result TriggerText TriggerFault)
    → bytes_eq other.name event.name ≡ false → those_of event (hists_said number other hists said) ≡ those_of event hists
said-other number other event hists (Ok (Hist spec)) differ = by (has_same spec (those_of other hists))
  where
    new : HistTrigger
    new = new_hist number other hists spec

    pushed : those_of event (hists ++ new ∷ []) ≡ those_of event hists
    pushed =
        filter-append (is_of event) hists (new ∷ [])
        ∙ ap (λ (b : Bool). those_of event hists ++ (if b then new ∷ [] else [])) (bytes-differ other.name event.name differ)
        ∙ append-nil (those_of event hists)

    by : (same : Bool) → those_of event (if same then hists else hists ++ new ∷ []) ≡ those_of event hists
    by true = refl
    by false = pushed
said-other number other event hists (Ok (RemoveHist spec)) differ =
    filter-kept (is_of event) (λ t. not (is_of other t && says_same spec t))
    (λ t is. ap (λ (b : Bool). not (b && says_same spec t)) (other-event other event differ t is)) hists
said-other number other event hists (Ok (AttachSnapshot trigger)) differ = refl
said-other number other event hists (Ok RemoveSnapshot) differ = refl
said-other number other event hists (Ok Nothing) differ = refl
said-other number other event hists (Err fault) differ = refl

-- ---- one request later

after-of_event : (event : Definition) (number : ℕ) (written : Option Written) (hists : List HistTrigger)
    → those_of event (hists_after number written hists) ≡ own_after number hists (written_for event written) (those_of event hists)
after-of_event event number None hists = refl
after-of_event event number (Some w) hists = by (bytes_eq w.event.name event.name) refl
  where
    left : List HistTrigger
    left = left_by w.event w.append hists

    by : (same : Bool) → bytes_eq w.event.name event.name ≡ same
        → those_of event (hists_said number w.event left (said_of w.event w.text)) ≡ own_after number hists (if same then Some w else None) (those_of event hists)
    by true is =
        let names : w.event.name ≡ event.name = (bytes_eq-Decides w.event.name event.name).0 is in
        let of_event : (l : List HistTrigger) → those_of event l ≡ those_of w.event l =
        λ l i. filter (λ (t : HistTrigger). bytes_eq (sym names i) t.event.name) l in
        of_event (hists_said number w.event left (said_of w.event w.text))
        ∙ said-own number w.event left (said_of w.event w.text)
        ∙ ap (λ (l : List HistTrigger). own_said number w.event left l (said_of w.event w.text))
        (own-left w.event w.append hists ∙ ap (kept_by w.append) (sym (of_event hists)))
    by false differ = said-other number w.event event left (said_of w.event w.text) differ ∙ left-other w.event event w.append hists differ

pub hists_of-after : (instance : Option (List ℕ)) (event : Definition) (past : List Request) (request : Request) → makes instance request ≡ false
    → hists_of instance event (request ∷ past)
    ≡ own_after (length past) (hist_triggers instance past) (written_for event (written_to instance past request)) (hists_of instance event past)
hists_of-after instance event past request alive =
    let later : hist_triggers instance (request ∷ past) ≡ hists_after (length past) (written_to instance past request) (hist_triggers instance past) = rw alive refl in
    ap (those_of event) later ∙ after-of_event event (length past) (written_to instance past request) (hist_triggers instance past)

pub hists_of-made : (instance : Option (List ℕ)) (event : Definition) (past : List Request) (request : Request) → makes instance request ≡ true
    → hists_of instance event (request ∷ past) ≡ []
hists_of-made instance event past request made = rw made refl

-- ---- their tables

record HaveTables (number : ℕ) (hists : List HistTrigger) : Type 0 where
  made : AreMadeBefore number hists
  apart : AreApart hists

tables-filter : (number : ℕ) (test : HistTrigger → Bool) (hists : List HistTrigger) → HaveTables number hists → HaveTables number (filter test hists)
tables-filter number test hists have = record {
  made = all-filter (IsBefore number) test hists have.made;
  apart = apart-filter test hists have.apart;
}

tables-left : (number : ℕ) (event : Definition) (append : Bool) (hists : List HistTrigger) → HaveTables number hists → HaveTables number (left_by event append hists)
tables-left number event true hists have = have
tables-left number event false hists have = tables-filter number (λ t. not (is_of event t)) hists have

tables-later : (number : ℕ) (hists : List HistTrigger) → HaveTables number hists → HaveTables (suc number) hists
tables-later number hists have = record { made = made-later number hists have.made; apart = have.apart }

tables-said : (number : ℕ) (event : Definition) (hists : List HistTrigger) (said : Result TriggerText TriggerFault) → HaveTables number hists
    → HaveTables (suc number) (hists_said number event hists said)
tables-said number event hists (Ok (Hist spec)) have = by (has_same spec (those_of event hists))
  where
    new : HistTrigger
    new = new_hist number event hists spec

    by : (same : Bool) → HaveTables (suc number) (if same then hists else hists ++ new ∷ [])
    by true = tables-later number hists have
    by false = record {
      made = all-push (IsBefore (suc number)) hists new (made-later number hists have.made) (new-before number event hists spec have.made);
      apart = apart-push hists new have.apart (in-each (λ t. IsApart t new) hists (new-apart number event hists spec have.made have.apart));
    }
tables-said number event hists (Ok (RemoveHist spec)) have =
    tables-later number (filter (λ t. not (is_of event t && says_same spec t)) hists) (tables-filter number (λ t. not (is_of event t && says_same spec t)) hists have)
tables-said number event hists (Ok (AttachSnapshot trigger)) have = tables-later number hists have
tables-said number event hists (Ok RemoveSnapshot) have = tables-later number hists have
tables-said number event hists (Ok Nothing) have = tables-later number hists have
tables-said number event hists (Err fault) have = tables-later number hists have

tables-after : (number : ℕ) (written : Option Written) (hists : List HistTrigger) → HaveTables number hists → HaveTables (suc number) (hists_after number written hists)
tables-after number None hists have = tables-later number hists have
tables-after number (Some w) hists have =
    tables-said number w.event (left_by w.event w.append hists) (said_of w.event w.text) (tables-left number w.event w.append hists have)

have_tables : (instance : Option (List ℕ)) (past : List Request) → HaveTables (length past) (hist_triggers instance past)
have_tables instance [] = record { made = tt; apart = tt }
have_tables instance (request ∷ past) = by (makes instance request) (have_tables instance past)
  where
    by : (new : Bool) → HaveTables (length past) (hist_triggers instance past)
        → HaveTables (suc (length past)) (if new then [] else hists_after (length past) (written_to instance past request) (hist_triggers instance past))
    by true before = record { made = tt; apart = tt }
    by false before = tables-after (length past) (written_to instance past request) (hist_triggers instance past) before

-- each was attached, and its table made, by a request of the past
pub tables-made_before : (instance : Option (List ℕ)) (past : List Request) → AreMadeBefore (length past) (hist_triggers instance past)
tables-made_before instance past = (have_tables instance past).made

-- those of one name share a table, and no others do
pub tables-apart : (instance : Option (List ℕ)) (past : List Request) → AreApart (hist_triggers instance past)
tables-apart instance past = (have_tables instance past).apart
