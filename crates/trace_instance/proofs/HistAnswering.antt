-- What a text that says something of a hist trigger answers, and that the change made of it is the one that the definitions say.
use Rattle.std.proofs.Common.{◌≡◌, ℕ, ◌<◌, ◌≤◌, length, Bool, true, false, not, ◌&&◌, ◌||◌, if◌then◌else◌, List, ◌∷◌, is_some, Option, None, Some, Result, Ok, Err, refl, sym, ap, ◌∙◌, subst, arith}
use Rattle.std.specs.Global.{Box}
use Rattle.std.specs.List.{list_any}
use Rattle.trace_format.specs.Definitions.{Definition}
use Rattle.trace_trigger.specs.HistSpecs.{SpecSeen}
use Rattle.trace_trigger.specs.declared.spec.Action.{Action}
use Rattle.trace_trigger.specs.declared.spec.Action.TheVariants as action
use Rattle.trace_trigger.specs.TriggerTexts.{said_of}
use Rattle.trace_trigger.specs.declared.trigger.TriggerText.TheVariants as said
use Rattle.trace_command.specs.Requests.{Request}
use Rattle.trace_command.specs.declared.command.Reply.{Reply}
use Rattle.trace_command.specs.declared.command.Reply.TheVariants.{Done}
use Rattle.trace_command.specs.declared.refusal.Refusal.{Refusal}
use Rattle.trace_command.specs.declared.refusal.Limit.TheVariants as limit
use Rattle.trace_command.specs.declared.refusal.Refusal.TheVariants as refusal
use Rattle.tracer_specification.specs.History.{asked_answer, fitting_answer, new_hist_answer, remove_hist_answer, room_answer, trigger_answer, trigger_count}
use Rattle.tracer_specification.specs.HistTriggers.{HistTrigger, fits_that, has_same, hist_triggers, hists_said, is_of, named_by, says_same as says_same_as, those_of}
use Rattle.tracer_specification.specs.Triggers as triggers
use Rattle.tracer_specification.specs.Triggers.{snapshot_trigger_of}
use Rattle.tracer_specification.proofs.EventHists.{own-left}
use Rattle.tracer_specification.proofs.Members.{IsIn, in-filter}
use Rattle.trace_instance.specs.private.Attaching.{AreKept, IsAsked, IsRemovedHist, asked_change, attaches, kept_count, same_left}
use Rattle.trace_instance.specs.Instances.{TablesFit}
use Rattle.trace_instance.specs.KeptHists.{says_same}
use Rattle.trace_instance.specs.declared.attach.EventTriggers.{EventTriggers}
use Rattle.trace_instance.specs.declared.change.TriggerChange.TheVariants.{DetachHist, AskTable}
use Rattle.trace_instance.specs.declared.hists.AttachedHist.{AttachedHist}
use Rattle.trace_instance.specs.declared.write.WrittenText.{WrittenText}
use Rattle.trace_instance.proofs.Attached.{IsNamed, all-are, all_left, hists-asked, hists-removed, own_left, snapshot-stays, tables-asked, tables-stay, text_request}
use Rattle.tracer_specification.proofs.NamedTables.{fit-fewer}
use Rattle.trace_instance.proofs.FittingTables.{fit-tables, left-fit}
use Rattle.trace_instance.proofs.Snapshotting.{refused}
use Rattle.trace_instance.proofs.Answering.{answered, count-left, done-late, fit-stays, found-left, has-same, has-same_left, room-full, room-had}

-- ---- what is asked of one that is attached

-- whether a text fits the table that it names
abbrev pub fits_named : Option (List ℕ) → List Request → Definition → Bool → SpecSeen → Bool
fits_named name past event append spec = fits_that spec (named_by spec (all_left name past event append))

ask-answer : (spec : SpecSeen) (kept : EventTriggers) (written : WrittenText) (same : Bool) (event : Definition) (name : Option (List ℕ)) (past : List Request)
    → is_some (same_left spec kept written.append) ≡ same → AreKept name past event kept
    → said_of event written.text.now ≡ Ok (said.Hist spec)
    → trigger_answer name past written.append written.text.now event
    ≡ (if same then asked_answer spec.action
    else new_hist_answer (snapshot_trigger_of name event past) (own_left name past event written.append) (fits_named name past event written.append spec) spec.action)
ask-answer spec kept written same event name past at are is =
    answered name past event written.append written.text.now (Ok (said.Hist spec)) is
    ∙ ap
    (λ (b : Bool). if b then asked_answer spec.action
    else new_hist_answer (snapshot_trigger_of name event past) (own_left name past event written.append) (fits_named name past event written.append spec) spec.action)
    (has-same_left name past event kept spec written.append are ∙ at)

ask-refused : (spec : SpecSeen) (kept : EventTriggers) (written : WrittenText) → is_some (same_left spec kept written.append) ≡ true
    → spec.action ≡ action.Attach → IsAsked spec kept written (Err refusal.TriggerExists)
ask-refused spec kept written same attach = λ event name past number are is.
    refused refusal.TriggerExists (trigger_answer name past written.append written.text.now event)
    (ask-answer spec kept written true event name past same are is ∙ ap asked_answer attach)

asked-done : (asked : Action) → (asked ≡ action.Attach → ⊥) → asked_answer asked ≡ Ok Done
asked-done action.Attach other = absurd (other refl)
asked-done asked other = refl

-- where one of the event says the same, all are left as they are
said-same : (name : Option (List ℕ)) (past : List Request) (event : Definition) (append : Bool) (spec : SpecSeen)
    → has_same spec (own_left name past event append) ≡ true
    → hists_said (length past) event (all_left name past event append) (Ok (said.Hist spec)) ≡ all_left name past event append
said-same name past event append spec same =
    let there : has_same spec (those_of event (all_left name past event append)) ≡ true =
    ap (has_same spec) (own-left event append (hist_triggers name past)) ∙ same in
    rw there refl

ask-done : (spec : SpecSeen) (kept : EventTriggers) (written : WrittenText) (a : AttachedHist)
    → same_left spec kept written.append ≡ Some a
    → (spec.action ≡ action.Attach → ⊥) → IsAsked spec kept written (Ok (AskTable a.table spec.action))
ask-done spec kept written a found other = λ event name past number are is.
    let same : is_some (same_left spec kept written.append) ≡ true = ap is_some found in
    let there : has_same spec (own_left name past event written.append) ≡ true = has-same_left name past event kept spec written.append are ∙ same in (
      ask-answer spec kept written true event name past same are is ∙ asked-done spec.action other,
      record {
        snapshot = snapshot-stays name past event written.append written.text.now (Ok (said.Hist spec)) is refl;
        hists = hists-asked name past event are.id written.append written.text.now are.named spec is there;
        possible = tt;
        tables = λ table. tables-asked name past event are.id written.append written.text.now are.named spec a table is there
            (found-left name past event kept spec a written.append are found);
        joined = tt;
        fitting = fit-stays name past event are.id written.append written.text.now (Ok (said.Hist spec)) are.named is
            (said-same name past event written.append spec there);
        spare = rw is refl;
      },
    )

pub ask-again : (spec : SpecSeen) (kept : EventTriggers) (written : WrittenText) (a : AttachedHist)
    → same_left spec kept written.append ≡ Some a → IsAsked spec kept written (asked_change a.table spec.action)
ask-again spec kept written a found = by spec.action refl
  where
    done : (asked : Action) → spec.action ≡ asked → (asked ≡ action.Attach → ⊥) → IsAsked spec kept written (Ok (AskTable a.table asked))
    done asked is other =
        subst (λ (b : Action). IsAsked spec kept written (Ok (AskTable a.table b))) is
        (ask-done spec kept written a found (λ attaching. other (sym is ∙ attaching)))

    by : (asked : Action) → spec.action ≡ asked → IsAsked spec kept written (asked_change a.table asked)
    by action.Attach is = ask-refused spec kept written (ap is_some found) is
    by asked is = done asked is (λ other. absurd (cc))

-- ---- where none says the same

new-lacks : (attached : Option triggers.Trigger) (hists : List HistTrigger) (fits : Bool) (asked : Action) → attaches asked ≡ false
    → new_hist_answer attached hists fits asked ≡ Err refusal.NoSuchTrigger
new-lacks attached hists fits action.Attach lacking = absurd (cc)
new-lacks attached hists fits action.Pause lacking = absurd (cc)
new-lacks attached hists fits asked lacking = refl

new-attaches : (attached : Option triggers.Trigger) (hists : List HistTrigger) (fits : Bool) (asked : Action) → attaches asked ≡ true
    → new_hist_answer attached hists fits asked ≡ fitting_answer fits (room_answer attached hists)
new-attaches attached hists fits action.Attach attaching = refl
new-attaches attached hists fits action.Pause attaching = refl
new-attaches attached hists fits asked attaching = absurd (cc)

pub ask-lacks : (spec : SpecSeen) (kept : EventTriggers) (written : WrittenText) → same_left spec kept written.append ≡ None
    → attaches spec.action ≡ false → IsAsked spec kept written (Err refusal.NoSuchTrigger)
ask-lacks spec kept written none lacking = λ event name past number are is.
    refused refusal.NoSuchTrigger (trigger_answer name past written.append written.text.now event)
    (ask-answer spec kept written false event name past (ap is_some none) are is
    ∙ new-lacks (snapshot_trigger_of name event past) (own_left name past event written.append) (fits_named name past event written.append spec) spec.action lacking)

room-answer : (spec : SpecSeen) (kept : EventTriggers) (written : WrittenText) (event : Definition) (name : Option (List ℕ)) (past : List Request)
    → same_left spec kept written.append ≡ None → attaches spec.action ≡ true → AreKept name past event kept
    → said_of event written.text.now ≡ Ok (said.Hist spec)
    → trigger_answer name past written.append written.text.now event
    ≡ fitting_answer (fits_named name past event written.append spec) (room_answer (snapshot_trigger_of name event past) (own_left name past event written.append))
room-answer spec kept written event name past none attaching are is =
    ask-answer spec kept written false event name past (ap is_some none) are is
    ∙ new-attaches (snapshot_trigger_of name event past) (own_left name past event written.append) (fits_named name past event written.append spec) spec.action attaching

pub ask-full : (spec : SpecSeen) (kept : EventTriggers) (written : WrittenText) → same_left spec kept written.append ≡ None
    → attaches spec.action ≡ true → 4 ≤ kept_count kept written.append → IsAsked spec kept written (Err (refusal.TooMany limit.Triggers))
ask-full spec kept written none attaching many = λ event name past number are is.
    let full : 4 ≤ trigger_count (snapshot_trigger_of name event past) (own_left name past event written.append) =
    omega (arith, many, count-left name past event kept written.append are) in
    refused (refusal.TooMany limit.Triggers) (trigger_answer name past written.append written.text.now event)
    (room-answer spec kept written event name past none attaching are is
    ∙ ap (fitting_answer (fits_named name past event written.append spec)) (room-full (snapshot_trigger_of name event past) (own_left name past event written.append) full))

-- there is room, and it is asked whether the text fits the table that it names
pub fit-answer : (spec : SpecSeen) (kept : EventTriggers) (written : WrittenText) (event : Definition) (name : Option (List ℕ)) (past : List Request)
    → same_left spec kept written.append ≡ None → attaches spec.action ≡ true → kept_count kept written.append < 4 → AreKept name past event kept
    → said_of event written.text.now ≡ Ok (said.Hist spec)
    → trigger_answer name past written.append written.text.now event ≡ fitting_answer (fits_named name past event written.append spec) (Ok Done)
fit-answer spec kept written event name past none attaching few are is =
    let room : trigger_count (snapshot_trigger_of name event past) (own_left name past event written.append) < 4 =
    omega (arith, few, count-left name past event kept written.append are) in
    room-answer spec kept written event name past none attaching are is
    ∙ ap (fitting_answer (fits_named name past event written.append spec)) (room-had (snapshot_trigger_of name event past) (own_left name past event written.append) room)

-- ---- removals

-- whether a text may say that one is removed: `>` removes all of them, so that none has to match
abbrev pub may_remove : SpecSeen → EventTriggers → Bool → Bool
may_remove spec kept append = not append || list_any (says_same spec) kept.own.now.triggers.hists

removed-answer : (event : Definition) (kept : EventTriggers) (written : WrittenText) (spec : SpecSeen) (name : Option (List ℕ)) (past : List Request)
    → AreKept name past event kept → said_of event written.text.now ≡ Ok (said.RemoveHist spec)
    → trigger_answer name past written.append written.text.now event
    ≡ (if may_remove spec kept written.append then Ok Done else Err refusal.NoSuchTrigger)
removed-answer event kept written spec name past are says =
    answered name past event written.append written.text.now (Ok (said.RemoveHist spec)) says ∙ by written.append
  where
    by : (append : Bool) → remove_hist_answer append (own_left name past event append) spec
        ≡ (let a : Result Reply Refusal = if may_remove spec kept append then Ok Done else Err refusal.NoSuchTrigger in a)
    by true = ap (λ (b : Bool). (let a : Result Reply Refusal = if b then Ok Done else Err refusal.NoSuchTrigger in a)) (has-same name past event kept spec are)
    by false = refl

-- those that are not removed fit still
fit-removed : (name : Option (List ℕ)) (past : List Request) (event : Definition) (id : ℕ) (append : Bool) (text : List ℕ) (spec : SpecSeen)
    → IsNamed past event id → said_of event text ≡ Ok (said.RemoveHist spec) → TablesFit name past → TablesFit name (text_request name event append text ∷ past)
fit-removed name past event id append text spec named is fit =
    let request = text_request name event append text in
    let left = all_left name past event append in
    let fewer = all-are name past event id append text named (Ok (said.RemoveHist spec)) is in
    fit-tables name (request ∷ past)
    (fit-fewer (hist_triggers name (request ∷ past)) left
    (λ t there. (in-filter t (λ (u : HistTrigger). not (is_of event u && says_same_as spec u)) left (subst (IsIn t) fewer there)).0)
    (left-fit name past event append fit))

pub remove-done : (spec : SpecSeen) (boxed : Box SpecSeen) (kept : EventTriggers) (written : WrittenText) → boxed.value ≡ spec
    → may_remove spec kept written.append ≡ true → IsRemovedHist spec kept written (Ok (DetachHist boxed))
remove-done spec boxed kept written same may = λ event name past number are is. (
  removed-answer event kept written spec name past are is
      ∙ ap (λ (b : Bool). (let a : Result Reply Refusal = if b then Ok Done else Err refusal.NoSuchTrigger in a)) may,
  record {
    snapshot = snapshot-stays name past event written.append written.text.now (Ok (said.RemoveHist spec)) is refl;
    hists = rw same (hists-removed name past event are.id written.append written.text.now are.named spec is);
    possible = tt;
    tables = λ table. tables-stay name past event are.id written.append written.text.now are.named (Ok (said.RemoveHist spec)) table is refl;
    joined = tt;
    fitting = fit-removed name past event are.id written.append written.text.now spec are.named is;
    spare = rw is refl;
  },
)

pub remove-late : (spec : SpecSeen) (kept : EventTriggers) (written : WrittenText) → may_remove spec kept written.append ≡ true
    → IsRemovedHist spec kept written (Err refusal.Memory)
remove-late spec kept written may = λ event name past number are is. done-late (trigger_answer name past written.append written.text.now event)
    (removed-answer event kept written spec name past are is
    ∙ ap (λ (b : Bool). (let a : Result Reply Refusal = if b then Ok Done else Err refusal.NoSuchTrigger in a)) may)

pub remove-lacks : (spec : SpecSeen) (kept : EventTriggers) (written : WrittenText) → may_remove spec kept written.append ≡ false
    → IsRemovedHist spec kept written (Err refusal.NoSuchTrigger)
remove-lacks spec kept written may = λ event name past number are is.
    refused refusal.NoSuchTrigger (trigger_answer name past written.append written.text.now event)
    (removed-answer event kept written spec name past are is
    ∙ ap (λ (b : Bool). (let a : Result Reply Refusal = if b then Ok Done else Err refusal.NoSuchTrigger in a)) may)
