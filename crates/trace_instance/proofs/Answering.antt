-- What a text that is written to an event's trigger file answers, and that the change made of it is the one that the definitions say.
use Rattle.std.proofs.Common.{◌≡◌, ℕ, ◌+◌, ◌<◌, ◌≤◌, nat_lt, Bool, true, false, not, ◌||◌, if◌then◌else◌, List, [], ◌∷◌, length, All, IfSome, is_some, option_map, Option, None, Some, Result, Ok, Err, refl, sym, ap, ◌∙◌, subst, arith, lt-ltb, ltb-true}
use Rattle.std.specs.List.{find, list_any}
use Rattle.std.proofs.lemmas.List.{get_or-map, length-map}
use Rattle.trace_lex.proofs.Options.{none_is}
use Rattle.trace_format.specs.Definitions.{Definition}
use Rattle.trace_trigger.specs.HistSpecs.{SpecSeen}
use Rattle.trace_trigger.specs.declared.spec.Action.{Action}
use Rattle.trace_trigger.specs.declared.spec.Action.TheVariants as action
use Rattle.trace_trigger.specs.TriggerAnswers.{IsAnswered}
use Rattle.trace_trigger.specs.TriggerTexts.{said_of}
use Rattle.trace_trigger.specs.declared.fault.TextCause.{TextCause}
use Rattle.trace_trigger.specs.declared.fault.TriggerFault.{TriggerFault}
use Rattle.trace_trigger.specs.declared.fault.TriggerFault.TheVariants as fault
use Rattle.trace_trigger.specs.declared.trigger.SnapshotTrigger.{SnapshotTrigger}
use Rattle.trace_trigger.specs.declared.trigger.TriggerText.{TriggerText}
use Rattle.trace_trigger.specs.declared.trigger.TriggerText.TheVariants as said
use Rattle.trace_command.specs.Refusals.{IsFoundEarly, IsRefusal, refusal_of_trigger}
use Rattle.trace_command.specs.Requests.{Request}
use Rattle.trace_command.specs.declared.command.Reply.{Reply}
use Rattle.trace_command.specs.declared.command.Reply.TheVariants.{Done}
use Rattle.trace_command.specs.declared.refusal.Refusal.{Refusal}
use Rattle.trace_command.specs.declared.refusal.Limit.TheVariants as limit
use Rattle.trace_command.specs.declared.refusal.Refusal.TheVariants as refusal
use Rattle.tracer_specification.specs.History.{asked_answer, fitting_answer, hist_answer, new_hist_answer, remove_hist_answer, room_answer, said_answer, trigger_answer, trigger_count}
use Rattle.tracer_specification.specs.HistTriggers.{HistTrigger, fits_that, has_same, hist_triggers, hists_of, hists_said, named_by}
use Rattle.tracer_specification.specs.Triggers as triggers
use Rattle.tracer_specification.specs.Triggers.{snapshot_trigger_of}
use Rattle.tracer_specification.proofs.HistTriggers.{hist_triggers_are_in_order}
use Rattle.tracer_specification.proofs.Members.{IsIn}
use Rattle.tracer_specification.proofs.Triggered.{number-before}
use Rattle.trace_instance.specs.private.Attaching.{AreKept, IsAttached, IsChangeOf, kept_count, same_left}
use Rattle.trace_instance.specs.Instances as instances
use Rattle.trace_instance.specs.Changes.{IsNewest}
use Rattle.trace_instance.specs.Instances.{TablesFit, kept_trigger}
use Rattle.trace_instance.specs.KeptHists.{attached_as, kept_hists, says_same}
use Rattle.trace_instance.specs.declared.attach.EventTriggers.{EventTriggers}
use Rattle.trace_instance.specs.declared.hists.AttachedHist.{AttachedHist}
use Rattle.trace_instance.specs.declared.change.TriggerChange.TheVariants.{Keep, AttachSnapshot, DetachSnapshot}
use Rattle.trace_instance.specs.declared.trigger.AttachedSnapshot.{AttachedSnapshot}
use Rattle.trace_instance.specs.declared.write.WrittenText.{WrittenText}
use Rattle.trace_instance.proofs.Attached.{IsNamed, all-are, all_left, hists-stay, own_left, snapshot-attached, snapshot-removed, snapshot-stays, tables-stay, text_request}
use Rattle.tracer_specification.proofs.NamedTables.{fit-fewer}
use Rattle.trace_instance.proofs.FittingTables.{fit-tables, left-fit}
use Rattle.trace_instance.proofs.EachEvent.{any-map}
use Rattle.trace_instance.proofs.OneSays.{some-found}
use Rattle.trace_instance.proofs.Snapshotting.{refused, some-mapped, there-is}

-- ---- what the requests say of what is kept

has-snapshot : (name : Option (List ℕ)) (past : List Request) (event : Definition) (kept : EventTriggers) → AreKept name past event kept
    → is_some (snapshot_trigger_of name event past) ≡ is_some kept.own.now.triggers.snapshot
has-snapshot name past event kept are =
    sym (some-mapped (instances.kept_as past event) (snapshot_trigger_of name event past)) ∙ ap is_some (sym are.snapshot)

pub has-same : (name : Option (List ℕ)) (past : List Request) (event : Definition) (kept : EventTriggers) (spec : SpecSeen) → AreKept name past event kept
    → has_same spec (hists_of name event past) ≡ list_any (says_same spec) kept.own.now.triggers.hists
has-same name past event kept spec are =
    sym (any-map (says_same spec) attached_as (hists_of name event past)) ∙ ap (list_any (says_same spec)) (sym are.hists)

pub has-same_left : (name : Option (List ℕ)) (past : List Request) (event : Definition) (kept : EventTriggers) (spec : SpecSeen) (append : Bool)
    → AreKept name past event kept → has_same spec (own_left name past event append) ≡ is_some (same_left spec kept append)
has-same_left name past event kept spec true are = has-same name past event kept spec are ∙ sym (some-found (says_same spec) kept.own.now.triggers.hists)
has-same_left name past event kept spec false are = refl

pub found-left : (name : Option (List ℕ)) (past : List Request) (event : Definition) (kept : EventTriggers) (spec : SpecSeen) (a : AttachedHist) (append : Bool)
    → AreKept name past event kept → same_left spec kept append ≡ Some a → find (says_same spec) (if append then kept_hists name past event else []) ≡ Some a
found-left name past event kept spec a true are found = ap (find (says_same spec)) (sym are.hists) ∙ found
found-left name past event kept spec a false are found = found

many-left : (name : Option (List ℕ)) (past : List Request) (event : Definition) (kept : EventTriggers) (append : Bool) → AreKept name past event kept
    → length (own_left name past event append) ≡ (if append then length kept.own.now.triggers.hists else 0)
many-left name past event kept true are =
    sym (length-map (hists_of name event past) attached_as) ∙ ap length (sym are.hists)
many-left name past event kept false are = refl

pub count-left : (name : Option (List ℕ)) (past : List Request) (event : Definition) (kept : EventTriggers) (append : Bool) → AreKept name past event kept
    → trigger_count (snapshot_trigger_of name event past) (own_left name past event append) ≡ kept_count kept append
count-left name past event kept append are =
    by (snapshot_trigger_of name event past) ∙ (λ i. many-left name past event kept append are i + (if has-snapshot name past event kept are i then 1 else 0))
  where
    by : (o : Option triggers.Trigger) → trigger_count o (own_left name past event append)
        ≡ length (own_left name past event append) + (if is_some o then 1 else 0)
    by None = omega arith
    by (Some t) = refl

-- a trigger that is attached where there is room is the newest
pub newest-left : (name : Option (List ℕ)) (past : List Request) (event : Definition) (kept : EventTriggers) (append : Bool) → AreKept name past event kept
    → kept_count kept append < 4 → IsNewest (length past) (kept_trigger name past event) (if append then kept_hists name past event else [])
newest-left name past event kept append are few = record {
  few = few_of append few;
  after_snapshot = by (snapshot_trigger_of name event past) refl;
  after_hists = all append;
}
  where
    few_of : (b : Bool) → kept_count kept b < 4
        → length (if b then kept_hists name past event else []) + (if is_some (kept_trigger name past event) then 1 else 0) < 4
    few_of true few = rw (← are.snapshot, ← are.hists) few
    few_of false few = rw (← are.snapshot) few

    by : (o : Option triggers.Trigger) → snapshot_trigger_of name event past ≡ o → IfSome (option_map (instances.kept_as past event) o) (λ t. t.number < length past)
    by None is = tt
    by (Some t) is = number-before name event past t is

    all : (b : Bool) → All (λ (a : AttachedHist). a.number < length past) (if b then kept_hists name past event else [])
    all true = λ k d within.
        let t : HistTrigger = record { event = event; number = d.number; spec = d.spec; table = d.table } in
        let inside : k < length (hists_of name event past) = omega (arith, within, length-map (hists_of name event past) attached_as) in
        rw (get_or-map attached_as (hists_of name event past) k t d inside) ((hist_triggers_are_in_order name event past).1 k t inside)
    all false = λ k d within. absurd (omega (arith, within))

-- ---- answers

pub answered : (name : Option (List ℕ)) (past : List Request) (event : Definition) (append : Bool) (text : List ℕ) (r : Result TriggerText TriggerFault)
    → said_of event text ≡ r
    → trigger_answer name past append text event
    ≡ said_answer append (snapshot_trigger_of name event past) (own_left name past event append) (all_left name past event append) r
unfolding trigger_answer
answered name past event append text r is =
    ap (said_answer append (snapshot_trigger_of name event past) (own_left name past event append) (all_left name past event append)) is

pub done-late : (answer : Result Reply Refusal) → answer ≡ Ok Done → IsRefusal refusal.Memory answer
done-late answer is = (λ other. absurd (other refl), λ early. absurd (rw is at early))

pub room-had : (attached : Option triggers.Trigger) (hists : List HistTrigger) → trigger_count attached hists < 4 → room_answer attached hists ≡ Ok Done
room-had attached hists less = rw (lt-ltb (trigger_count attached hists) 4 less) refl

pub room-full : (attached : Option triggers.Trigger) (hists : List HistTrigger) → 4 ≤ trigger_count attached hists → room_answer attached hists ≡ Err (refusal.TooMany limit.Triggers)
room-full attached hists many = by (nat_lt (trigger_count attached hists) 4) refl
  where
    by : (room : Bool) → nat_lt (trigger_count attached hists) 4 ≡ room → (let a : Result Reply Refusal = if room then Ok Done else Err (refusal.TooMany limit.Triggers) in a) ≡ Err (refusal.TooMany limit.Triggers)
    by true is = absurd (omega (arith, many, ltb-true (trigger_count attached hists) 4 is))
    by false is = refl

late-room : (attached : Option triggers.Trigger) (hists : List HistTrigger) → IsFoundEarly (room_answer attached hists) → ⊥
late-room attached hists = by (nat_lt (trigger_count attached hists) 4)
  where
    by : (room : Bool) → IsFoundEarly (let a : Result Reply Refusal = if room then Ok Done else Err (refusal.TooMany limit.Triggers) in a) → ⊥
    by true early = absurd early
    by false early = absurd (cc)

late-asked : (asked : Action) → IsFoundEarly (asked_answer asked) → ⊥
late-asked action.Attach early = absurd (cc)
late-asked asked early = absurd early

late-fitting : (fits : Bool) (answer : Result Reply Refusal) → (IsFoundEarly answer → ⊥) → IsFoundEarly (fitting_answer fits answer) → ⊥
late-fitting true (Ok reply) late early = absurd early
late-fitting false (Ok reply) late early = absurd (cc)
late-fitting fits (Err refusal) late early = late early

late-new : (attached : Option triggers.Trigger) (hists : List HistTrigger) (fits : Bool) (asked : Action)
    → IsFoundEarly (new_hist_answer attached hists fits asked) → ⊥
late-new attached hists fits action.Continue early = absurd (cc)
late-new attached hists fits action.Clear early = absurd (cc)
late-new attached hists fits asked early = late-fitting fits (room_answer attached hists) (late-room attached hists) early

late-hist : (attached : Option triggers.Trigger) (hists all : List HistTrigger) (spec : SpecSeen) → IsFoundEarly (hist_answer attached hists all spec) → ⊥
late-hist attached hists all spec = by (has_same spec hists)
  where
    by : (same : Bool)
        → IsFoundEarly (if same then asked_answer spec.action else new_hist_answer attached hists (fits_that spec (named_by spec all)) spec.action) → ⊥
    by true early = late-asked spec.action early
    by false early = late-new attached hists (fits_that spec (named_by spec all)) spec.action early

late-remove : (append : Bool) (hists : List HistTrigger) (spec : SpecSeen) → IsFoundEarly (remove_hist_answer append hists spec) → ⊥
late-remove append hists spec = by (not append || has_same spec hists)
  where
    by : (gone : Bool) → IsFoundEarly (let a : Result Reply Refusal = if gone then Ok Done else Err refusal.NoSuchTrigger in a) → ⊥
    by true early = absurd early
    by false early = absurd (cc)

-- nothing but a text that is written wrong is found early
said-late : (append : Bool) (attached : Option triggers.Trigger) (hists all : List HistTrigger) (r : Result TriggerText TriggerFault)
    → ((cause : TextCause) → r ≡ Err (fault.BadText cause) → ⊥) → IsFoundEarly (said_answer append attached hists all r) → ⊥
said-late append attached hists all (Err (fault.BadText cause)) other early = other cause refl
said-late append attached hists all (Err faulty) other early = absurd (cc)
said-late append attached hists all (Ok said.Nothing) other early = absurd early
said-late append None hists all (Ok (said.AttachSnapshot spec)) other early = late-room None hists early
said-late append (Some t) hists all (Ok (said.AttachSnapshot spec)) other early = absurd (cc)
said-late append None hists all (Ok said.RemoveSnapshot) other early = absurd (cc)
said-late append (Some t) hists all (Ok said.RemoveSnapshot) other early = absurd early
said-late append attached hists all (Ok (said.Hist spec)) other early = late-hist attached hists all spec early
said-late append attached hists all (Ok (said.RemoveHist spec)) other early = late-remove append hists spec early

-- a refusal of a text
said-refused : (append : Bool) (attached : Option triggers.Trigger) (hists all : List HistTrigger) (r : Result TriggerText TriggerFault) (faulty : TriggerFault)
    → (let a : Result TriggerText TriggerFault = Err faulty in IsAnswered a r)
    → ((cause : TextCause) → r ≡ Err (fault.BadText cause) → faulty ≡ fault.BadText cause) → IsRefusal (refusal_of_trigger faulty) (said_answer append attached hists all r)
said-refused append attached hists all r fault.Memory is told = (
  λ other. absurd (other refl),
  λ early. absurd (said-late append attached hists all r (λ cause bad. absurd (let h : fault.Memory ≡ fault.BadText cause = told cause bad in cc)) early),
)
said-refused append attached hists all r faulty is told = let a = ap (said_answer append attached hists all) is in (λ other. a, λ early. a)

pub text-refused : (event : Definition) (kept : EventTriggers) (written : WrittenText) (faulty : TriggerFault)
    → (let a : Result TriggerText TriggerFault = Err faulty in IsAnswered a (said_of event written.text.now))
    → ((cause : TextCause) → said_of event written.text.now ≡ Err (fault.BadText cause) → faulty ≡ fault.BadText cause)
    → IsChangeOf event kept written (Err (refusal_of_trigger faulty))
unfolding trigger_answer
text-refused event kept written faulty is told = λ name past number are.
    said-refused written.append (snapshot_trigger_of name event past) (own_left name past event written.append) (all_left name past event written.append)
    (said_of event written.text.now) faulty is told

-- ---- nothing

-- triggers that fit, where a text attaches none
pub fit-stays : (name : Option (List ℕ)) (past : List Request) (event : Definition) (id : ℕ) (append : Bool) (text : List ℕ) (r : Result TriggerText TriggerFault)
    → IsNamed past event id → said_of event text ≡ r → hists_said (length past) event (all_left name past event append) r ≡ all_left name past event append
    → TablesFit name past → TablesFit name (text_request name event append text ∷ past)
fit-stays name past event id append text r named is stays fit =
    let request = text_request name event append text in
    fit-tables name (request ∷ past)
    (fit-fewer (hist_triggers name (request ∷ past)) (all_left name past event append)
    (λ t there. subst (IsIn t) (all-are name past event id append text named r is ∙ stays) there) (left-fit name past event append fit))

pub text-nothing : (event : Definition) (kept : EventTriggers) (written : WrittenText) → said_of event written.text.now ≡ Ok said.Nothing
    → IsChangeOf event kept written (Ok Keep)
text-nothing event kept written is = λ name past number are. (
  answered name past event written.append written.text.now (Ok said.Nothing) is,
  record {
    snapshot = snapshot-stays name past event written.append written.text.now (Ok said.Nothing) is refl;
    hists = hists-stay name past event are.id written.append written.text.now are.named (Ok said.Nothing) is refl;
    possible = tt;
    tables = λ table. tables-stay name past event are.id written.append written.text.now are.named (Ok said.Nothing) table is refl;
    joined = tt;
    fitting = fit-stays name past event are.id written.append written.text.now (Ok said.Nothing) are.named is refl;
    spare = rw is refl;
  },
)

-- ---- triggers for snapshots

some-snapshot : (name : Option (List ℕ)) (past : List Request) (event : Definition) (kept : EventTriggers) → AreKept name past event kept
    → is_some kept.own.now.triggers.snapshot ≡ true → (t : triggers.Trigger) × (snapshot_trigger_of name event past ≡ Some t)
some-snapshot name past event kept are some = there-is (snapshot_trigger_of name event past) (has-snapshot name past event kept are ∙ some)

no-snapshot : (name : Option (List ℕ)) (past : List Request) (event : Definition) (kept : EventTriggers) → AreKept name past event kept
    → is_some kept.own.now.triggers.snapshot ≡ false → snapshot_trigger_of name event past ≡ None
no-snapshot name past event kept are none = none_is (snapshot_trigger_of name event past) (has-snapshot name past event kept are ∙ none)

pub attach-exists : (trigger : SnapshotTrigger) (kept : EventTriggers) (written : WrittenText) → is_some kept.own.now.triggers.snapshot ≡ true
    → IsAttached trigger kept written (Err refusal.TriggerExists)
attach-exists trigger kept written some = λ event name past number are is.
    let there = some-snapshot name past event kept are some in
    refused refusal.TriggerExists (trigger_answer name past written.append written.text.now event)
    (answered name past event written.append written.text.now (Ok (said.AttachSnapshot trigger)) is
    ∙ ap (λ (o : Option triggers.Trigger). said_answer written.append o (own_left name past event written.append) (all_left name past event written.append) (Ok (said.AttachSnapshot trigger))) there.1)

attach-answer : (trigger : SnapshotTrigger) (kept : EventTriggers) (written : WrittenText) (event : Definition) (name : Option (List ℕ)) (past : List Request)
    → AreKept name past event kept → is_some kept.own.now.triggers.snapshot ≡ false → said_of event written.text.now ≡ Ok (said.AttachSnapshot trigger)
    → trigger_answer name past written.append written.text.now event ≡ room_answer (snapshot_trigger_of name event past) (own_left name past event written.append)
attach-answer trigger kept written event name past are none is =
    let gone = no-snapshot name past event kept are none in
    answered name past event written.append written.text.now (Ok (said.AttachSnapshot trigger)) is
    ∙ ap (λ (o : Option triggers.Trigger). said_answer written.append o (own_left name past event written.append) (all_left name past event written.append) (Ok (said.AttachSnapshot trigger))) gone
    ∙ ap (λ (o : Option triggers.Trigger). room_answer o (own_left name past event written.append)) (sym gone)

pub attach-full : (trigger : SnapshotTrigger) (kept : EventTriggers) (written : WrittenText) → is_some kept.own.now.triggers.snapshot ≡ false
    → 4 ≤ kept_count kept written.append → IsAttached trigger kept written (Err (refusal.TooMany limit.Triggers))
attach-full trigger kept written none many = λ event name past number are is.
    let full : 4 ≤ trigger_count (snapshot_trigger_of name event past) (own_left name past event written.append) =
    omega (arith, many, count-left name past event kept written.append are) in
    refused (refusal.TooMany limit.Triggers) (trigger_answer name past written.append written.text.now event)
    (attach-answer trigger kept written event name past are none is
    ∙ room-full (snapshot_trigger_of name event past) (own_left name past event written.append) full)

pub attach-done : (trigger : SnapshotTrigger) (kept : EventTriggers) (written : WrittenText) → is_some kept.own.now.triggers.snapshot ≡ false
    → kept_count kept written.append < 4
    → IsAttached trigger kept written (Ok (AttachSnapshot (record { number = written.number; left = trigger.count; filter = trigger.filter })))
attach-done trigger kept written none few = λ event name past number are is.
    let room : trigger_count (snapshot_trigger_of name event past) (own_left name past event written.append) < 4 =
    omega (arith, few, count-left name past event kept written.append are) in (
      attach-answer trigger kept written event name past are none is
          ∙ room-had (snapshot_trigger_of name event past) (own_left name past event written.append) room,
      record {
        snapshot = snapshot-attached name past event written.append written.text.now trigger is
            ∙ ap (λ (n : ℕ). (let t : Option AttachedSnapshot = Some (record { number = n; left = trigger.count; filter = trigger.filter }) in t)) number;
        hists = hists-stay name past event are.id written.append written.text.now are.named (Ok (said.AttachSnapshot trigger)) is refl;
        possible = (
          sym are.snapshot ∙ none_is kept.own.now.triggers.snapshot none,
          rw (← number) (newest-left name past event kept written.append are few),
        );
        tables = λ table. tables-stay name past event are.id written.append written.text.now are.named (Ok (said.AttachSnapshot trigger)) table is refl;
        joined = tt;
        fitting = fit-stays name past event are.id written.append written.text.now (Ok (said.AttachSnapshot trigger)) are.named is refl;
        spare = rw is refl;
      },
    )

pub text-detaches : (event : Definition) (kept : EventTriggers) (written : WrittenText) → said_of event written.text.now ≡ Ok said.RemoveSnapshot
    → is_some kept.own.now.triggers.snapshot ≡ true → IsChangeOf event kept written (Ok DetachSnapshot)
text-detaches event kept written is some = λ name past number are.
    let there = some-snapshot name past event kept are some in (
      answered name past event written.append written.text.now (Ok said.RemoveSnapshot) is
          ∙ ap (λ (o : Option triggers.Trigger). said_answer written.append o (own_left name past event written.append) (all_left name past event written.append) (Ok said.RemoveSnapshot)) there.1,
      record {
        snapshot = snapshot-removed name past event written.append written.text.now is;
        hists = hists-stay name past event are.id written.append written.text.now are.named (Ok said.RemoveSnapshot) is refl;
        possible = tt;
        tables = λ table. tables-stay name past event are.id written.append written.text.now are.named (Ok said.RemoveSnapshot) table is refl;
        joined = tt;
        fitting = fit-stays name past event are.id written.append written.text.now (Ok said.RemoveSnapshot) are.named is refl;
        spare = rw is refl;
      },
    )

pub text-lacks : (event : Definition) (kept : EventTriggers) (written : WrittenText) → said_of event written.text.now ≡ Ok said.RemoveSnapshot
    → is_some kept.own.now.triggers.snapshot ≡ false → IsChangeOf event kept written (Err refusal.NoSuchTrigger)
text-lacks event kept written is none = λ name past number are.
    refused refusal.NoSuchTrigger (trigger_answer name past written.append written.text.now event)
    (answered name past event written.append written.text.now (Ok said.RemoveSnapshot) is
    ∙ ap (λ (o : Option triggers.Trigger). said_answer written.append o (own_left name past event written.append) (all_left name past event written.append) (Ok said.RemoveSnapshot))
    (no-snapshot name past event kept are none))
