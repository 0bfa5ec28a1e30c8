-- Triggers, and the emissions that they met, one request later.
use Rattle.std.proofs.Common.{◌≡◌, ℕ, suc, ◌+◌, ◌-◌, ◌<◌, nat_lt, Bool, true, false, if◌then◌else◌, List, [], ◌∷◌, ◌++◌, length, bytes_eq, Option, None, Some, unwrap_or, option_map, Result, Ok, Err, refl, ap, ◌∙◌, arith, lt-ltb, ltb-true, append-nil}
use Rattle.std.proofs.lemmas.List.{length-append}
use Rattle.trace_filter.specs.Filters.{Parsed}
use Rattle.trace_format.specs.Definitions.{Definition}
use Rattle.trace_trigger.specs.TriggerTexts.{said_of}
use Rattle.trace_trigger.specs.declared.fault.TriggerFault.{TriggerFault}
use Rattle.trace_trigger.specs.declared.trigger.TriggerText.{TriggerText}
use Rattle.trace_trigger.specs.declared.trigger.TriggerText.TheVariants.{Nothing, AttachSnapshot, RemoveSnapshot, Hist, RemoveHist}
use Rattle.trace_command.specs.Paths.{File, OfEvent}
use Rattle.trace_command.specs.Requests.{Request, WriteFile}
use Rattle.trace_command.specs.declared.file_name.EventFile.TheVariants as per_event
use Rattle.tracer_specification.specs.Emissions.{Emitted, emitted}
use Rattle.tracer_specification.specs.Settings.{is_same, makes, set_by}
use Rattle.tracer_specification.specs.Triggers.{Trigger, written_trigger, sets_trigger, snapshot_trigger_of, met_by, met, times_left}

-- ---- a trigger's number is less than the number of requests

said-number : (number : ℕ) (said : Result TriggerText TriggerFault) (t : Trigger) → written_trigger number said ≡ Some (Some t) → t.number ≡ number
said-number number (Ok (AttachSnapshot spec)) t is = cc
said-number number (Ok RemoveSnapshot) t is = absurd (cc)
said-number number (Ok Nothing) t is = absurd (cc)
said-number number (Ok (Hist spec)) t is = absurd (cc)
said-number number (Ok (RemoveHist spec)) t is = absurd (cc)
said-number number (Err fault) t is = absurd (cc)

sets-number : (event : Definition) (past : List Request) (file : File) (text : List ℕ) (t : Trigger)
    → sets_trigger event past file text ≡ Some (Some t) → t.number ≡ length past
sets-number event past (OfEvent name per_event.Trigger) text t is = by (bytes_eq event.name name) is
  where
    by : (same : Bool) → (if same then written_trigger (length past) (said_of event text) else None) ≡ Some (Some t) → t.number ≡ length past
    by true h = said-number (length past) (said_of event text) t h
    by false h = absurd (cc)
sets-number event past _ text t is = absurd (cc)

set-number : (instance : Option (List ℕ)) (event : Definition) (past : List Request) (request : Request) (t : Trigger)
    → set_by instance (sets_trigger event past) request ≡ Some (Some t) → t.number ≡ length past
set-number instance event past (WriteFile other (Some file) append text) t is = by (is_same instance other) is
  where
    by : (same : Bool) → (if same then sets_trigger event past file text else None) ≡ Some (Some t) → t.number ≡ length past
    by true h = sets-number event past file text t h
    by false h = absurd (cc)
set-number instance event past _ t is = absurd (cc)

pub number-before : (instance : Option (List ℕ)) (event : Definition) (past : List Request) (t : Trigger) → snapshot_trigger_of instance event past ≡ Some t
    → t.number < length past
number-before instance event [] t is = absurd (cc)
number-before instance event (request ∷ past) t is = by (makes instance request) is
    (by_set (set_by instance (sets_trigger event past) request) refl (number-before instance event past t))
  where
    by_set : (set : Option (Option Trigger)) → set_by instance (sets_trigger event past) request ≡ set
        → (snapshot_trigger_of instance event past ≡ Some t → t.number < length past)
        → unwrap_or set (snapshot_trigger_of instance event past) ≡ Some t → t.number < suc (length past)
    by_set None e older h = let less = older h in omega (arith, less)
    by_set (Some attached) e older h =
        let same : t.number ≡ length past = set-number instance event past request t (e ∙ ap Some h) in
        omega (arith, same)

    by : (new : Bool) → (if new then None else unwrap_or (set_by instance (sets_trigger event past) request) (snapshot_trigger_of instance event past)) ≡ Some t
        → (unwrap_or (set_by instance (sets_trigger event past) request) (snapshot_trigger_of instance event past) ≡ Some t → t.number < suc (length past))
        → t.number < suc (length past)
    by true h set = absurd (cc)
    by false h set = set h

-- ---- what it met

pub met-after : (event : Definition) (filter : Option Parsed) (number : ℕ) (past : List Request) (request : Request) → number < length past
    → met event filter number (request ∷ past) ≡ met event filter number past ++ met_by event filter (emitted past request)
met-after event filter number past request before =
    let is : nat_lt number (length past) ≡ true = lt-ltb number (length past) before in
    rw is refl

-- a trigger that was just attached met nothing
pub met-none : (event : Definition) (filter : Option Parsed) (past : List Request) (request : Request)
    → met event filter (length past) (request ∷ past) ≡ []
met-none event filter past request = by (nat_lt (length past) (length past)) refl
  where
    by : (less : Bool) → nat_lt (length past) (length past) ≡ less
        → (if less then met event filter (length past) past ++ met_by event filter (emitted past request) else []) ≡ []
    by false is = refl
    by true is = let less = ltb-true (length past) (length past) is in absurd (omega (arith, less))

-- ---- how many more it acts on

pub times_left-same : (event : Definition) (t : Trigger) (past : List Request) (request : Request) → t.number < length past
    → met_by event t.spec.filter (emitted past request) ≡ [] → times_left event t (request ∷ past) ≡ times_left event t past
times_left-same event t past request before none =
    let now = met-after event t.spec.filter t.number past request before in
    let same : met event t.spec.filter t.number (request ∷ past) ≡ met event t.spec.filter t.number past =
    now ∙ ap (λ (es : List Emitted). met event t.spec.filter t.number past ++ es) none ∙ append-nil (met event t.spec.filter t.number past) in
    ap (λ (es : List Emitted). option_map (λ (most : ℕ). most - length es) t.spec.count) same

-- a number less by one
less_one : (count : Option ℕ) (n : ℕ)
    → option_map (λ (most : ℕ). most - (n + 1)) count ≡ option_map (λ (times : ℕ). times - 1) (option_map (λ (most : ℕ). most - n) count)
less_one None n = refl
less_one (Some most) n = ap Some (omega arith)

pub times_left-less : (event : Definition) (t : Trigger) (past : List Request) (request : Request) (e : Emitted) → t.number < length past
    → met_by event t.spec.filter (emitted past request) ≡ e ∷ []
    → times_left event t (request ∷ past) ≡ option_map (λ (times : ℕ). times - 1) (times_left event t past)
times_left-less event t past request e before one =
    let older = met event t.spec.filter t.number past in
    let now = met-after event t.spec.filter t.number past request before in
    let more : met event t.spec.filter t.number (request ∷ past) ≡ older ++ e ∷ [] = now ∙ ap (λ (es : List Emitted). older ++ es) one in
    let count : length (met event t.spec.filter t.number (request ∷ past)) ≡ length older + 1 = ap length more ∙ length-append older (e ∷ []) in
    ap (λ (n : ℕ). option_map (λ (most : ℕ). most - n) t.spec.count) count ∙ less_one t.spec.count (length older)

-- none where it was just attached
all_left : (count : Option ℕ) → option_map (λ (most : ℕ). most - 0) count ≡ count
all_left None = refl
all_left (Some most) = ap Some (omega arith)

pub times_left-attached : (event : Definition) (t : Trigger) (past : List Request) (request : Request) → t.number ≡ length past
    → times_left event t (request ∷ past) ≡ t.spec.count
times_left-attached event t past request new =
    let none : met event t.spec.filter t.number (request ∷ past) ≡ [] =
    ap (λ (n : ℕ). met event t.spec.filter n (request ∷ past)) new ∙ met-none event t.spec.filter past request in
    ap (λ (es : List Emitted). option_map (λ (most : ℕ). most - length es) t.spec.count) none ∙ all_left t.spec.count
