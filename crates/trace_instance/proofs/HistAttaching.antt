-- What a text that attaches a hist trigger answers, and that the change made of it is the one that the definitions say: the trigger counts in the table
-- that the text names, or in one that is made with it.
use Rattle.std.proofs.Common.{◌≡◌, ℕ, ◌<◌, ◌==◌, length, Bool, true, false, if◌then◌else◌, List, [], ◌∷◌, ◌++◌, is_some, Option, None, Some, option_map, Result, Ok, Err, refl, sym, ap, ◌∙◌, subst}
use Rattle.std.proofs.lemmas.Option.{same_Some}
use Rattle.std.specs.Global.{Box}
use Rattle.trace_format.specs.Definitions.{Definition}
use Rattle.trace_hist.specs.Hists.{StandsFor}
use Rattle.trace_trigger.specs.FittingSpecs.{is_fitting}
use Rattle.trace_trigger.specs.HistSpecs.{SpecSeen}
use Rattle.trace_trigger.specs.TriggerTexts.{said_of}
use Rattle.trace_trigger.specs.declared.trigger.TriggerText.TheVariants as said
use Rattle.trace_command.specs.Requests.{Request}
use Rattle.trace_command.specs.declared.command.Reply.TheVariants.{Done}
use Rattle.trace_command.specs.declared.refusal.Refusal.{Refusal}
use Rattle.trace_command.specs.declared.refusal.Refusal.TheVariants as refusal
use Rattle.tracer_specification.specs.History.{fitting_answer, trigger_answer}
use Rattle.tracer_specification.specs.HistTriggers.{HistTrigger, fits_that, has_same, hist_triggers, hists_said, is_pause, named_by, table_or, those_of}
use Rattle.tracer_specification.proofs.EventHists.{own-left}
use Rattle.tracer_specification.proofs.Members.{IsIn, in-contains}
use Rattle.tracer_specification.proofs.NamedTables.{fit-fewer, fit-new, left-old}
use Rattle.tracer_specification.proofs.SharedTables.{said-alike}
use Rattle.tracer_specification.proofs.Tables.{found-in}
use Rattle.trace_instance.specs.private.Attaching.{AreKept, IsAsked, IsJoinedChange, IsMadeChange, attaches, kept_count, same_left}
use Rattle.trace_instance.specs.private.SharedTables.{left_of, named_in}
use Rattle.trace_instance.specs.Changes.{IsAsked as IsAskedOf, IsNewest, Joins}
use Rattle.trace_instance.specs.Instances.{TablesFit, kept_trigger}
use Rattle.trace_instance.specs.KeptHists.{attached_as, kept_hists}
use Rattle.trace_instance.specs.declared.attach.EventTriggers.{EventTriggers}
use Rattle.trace_instance.specs.declared.change.NewHist.{NewHist}
use Rattle.trace_instance.specs.declared.change.TriggerChange.{TriggerChange}
use Rattle.trace_instance.specs.declared.change.TriggerChange.TheVariants.{AttachHist, MakeHist}
use Rattle.trace_instance.specs.declared.hists.AttachedHist.{AttachedHist}
use Rattle.trace_instance.specs.declared.write.WrittenText.{WrittenText}
use Rattle.trace_instance.proofs.Attached.{IsNamed, all-are, all_left, hists-attached, new_of, own_left, snapshot-stays, tables-attached, text_request}
use Rattle.trace_instance.proofs.FittingTables.{fit-tables, left-fit, left-there}
use Rattle.trace_instance.proofs.Named.{book-alike, book-there, book_left, found-as}
use Rattle.trace_instance.proofs.Answering.{done-late, has-same_left, newest-left}
use Rattle.trace_instance.proofs.HistAnswering.{fit-answer, fits_named}
use Rattle.trace_instance.proofs.Snapshotting.{refused}

-- ---- one that is attached

said-new : (name : Option (List ℕ)) (past : List Request) (event : Definition) (append : Bool) (spec : SpecSeen)
    → has_same spec (own_left name past event append) ≡ false
    → hists_said (length past) event (all_left name past event append) (Ok (said.Hist spec))
    ≡ all_left name past event append ++ new_of name past event append spec ∷ []
said-new name past event append spec none =
    let lacks : has_same spec (those_of event (all_left name past event append)) ≡ false =
    ap (has_same spec) (own-left event append (hist_triggers name past)) ∙ none in
    rw lacks refl

fit-attached : (name : Option (List ℕ)) (past : List Request) (event : Definition) (id : ℕ) (append : Bool) (text : List ℕ) (spec : SpecSeen)
    → IsNamed past event id → said_of event text ≡ Ok (said.Hist spec) → has_same spec (own_left name past event append) ≡ false
    → fits_named name past event append spec ≡ true → TablesFit name past → TablesFit name (text_request name event append text ∷ past)
fit-attached name past event id append text spec named is none fits fit =
    let request = text_request name event append text in
    let left = all_left name past event append in
    let more = all-are name past event id append text named (Ok (said.Hist spec)) is ∙ said-new name past event append spec none in
    fit-tables name (request ∷ past)
    (fit-fewer (hist_triggers name (request ∷ past)) (left ++ new_of name past event append spec ∷ []) (λ t there. subst (IsIn t) more there)
    (fit-new (length past) event left spec (left-old name past event append) (left-fit name past event append fit) fits))

-- the table of the one that is attached
abbrev new_as : ℕ → ℕ → SpecSeen → AttachedHist
new_as number table spec = record { number = number; table = table; spec = spec }

pub attached-as : (name : Option (List ℕ)) (past : List Request) (event : Definition) (append : Bool) (spec : SpecSeen) (number table : ℕ)
    → length past ≡ number → table_or (length past) (named_by spec (all_left name past event append)) ≡ table
    → attached_as (new_of name past event append spec) ≡ new_as number table spec
attached-as name past event append spec number table one other = λ i. record { number = one i; table = other i; spec = spec }

-- the one whose table a text names is one of the instance
record IsNamedThere (name : Option (List ℕ)) (past : List Request) (kept : EventTriggers) (append : Bool) (spec : SpecSeen) (other : AttachedHist) : Type 0 where
  t : HistTrigger
  seen : attached_as t ≡ other
  found : named_by spec (book_left name past kept append) ≡ Some t
  there : IsIn t (hist_triggers name past)

named-there : (name : Option (List ℕ)) (past : List Request) (event : Definition) (kept : EventTriggers) (append : Bool) (spec : SpecSeen) (other : AttachedHist)
    → AreKept name past event kept → named_in spec (left_of kept append) ≡ Some other → IsNamedThere name past kept append spec other
named-there name past event kept append spec other are found =
    by (named_by spec (book_left name past kept append)) refl (sym (found-as name past event kept append spec are) ∙ found)
  where
    by : (o : Option HistTrigger) → named_by spec (book_left name past kept append) ≡ o → option_map attached_as o ≡ Some other
        → IsNamedThere name past kept append spec other
    by None at is = absurd (cc)
    by (Some t) at is = record {
      t = t;
      seen = same_Some (attached_as t) other is;
      found = at;
      there = left-there name past event append t (book-there name past event kept append are t (found-in spec (book_left name past kept append) t at).there);
    }

none-there : (name : Option (List ℕ)) (past : List Request) (event : Definition) (kept : EventTriggers) (append : Bool) (spec : SpecSeen)
    → AreKept name past event kept → named_in spec (left_of kept append) ≡ None → named_by spec (book_left name past kept append) ≡ None
none-there name past event kept append spec are lost =
    by (named_by spec (book_left name past kept append)) (sym (found-as name past event kept append spec are) ∙ lost)
  where
    by : (o : Option HistTrigger) → option_map attached_as o ≡ None → o ≡ None
    by None is = refl
    by (Some t) is = absurd (cc)

-- ---- a text for which there is room

module _ (spec : SpecSeen) (kept : EventTriggers) (written : WrittenText) (none : same_left spec kept written.append ≡ None)
    (attaching : attaches spec.action ≡ true) (few : kept_count kept written.append < 4) where
  module _ (event : Definition) (name : Option (List ℕ)) (past : List Request) (number : length past ≡ written.number) (are : AreKept name past event kept)
      (is : said_of event written.text.now ≡ Ok (said.Hist spec)) where
    abbrev request : Request
    request = text_request name event written.append written.text.now

    lacks : has_same spec (own_left name past event written.append) ≡ false
    lacks = has-same_left name past event kept spec written.append are ∙ ap is_some none

    -- it is answered by whether it fits the table that it names
    fitting-answer : (fits : Bool) → fits_named name past event written.append spec ≡ fits
        → trigger_answer name past written.append written.text.now event ≡ fitting_answer fits (Ok Done)
    fitting-answer fits at = fit-answer spec kept written event name past none attaching few are is ∙ ap (λ (b : Bool). fitting_answer b (Ok Done)) at

    -- the trigger that is attached, which counts in this table
    hists-now : (a : AttachedHist) (table : ℕ) → a ≡ new_as written.number table spec
        → table_or (length past) (named_by spec (all_left name past event written.append)) ≡ table
        → kept_hists name (request ∷ past) event ≡ (if written.append then kept_hists name past event else []) ++ a ∷ []
    hists-now a table same at =
        hists-attached name past event are.id written.append written.text.now are.named spec is lacks
        ∙ ap (λ (b : AttachedHist). (if written.append then kept_hists name past event else []) ++ b ∷ [])
        (attached-as name past event written.append spec written.number table number at ∙ sym same)

    asked-now : (a : AttachedHist) (table : ℕ) → a ≡ new_as written.number table spec
        → table_or (length past) (named_by spec (all_left name past event written.append)) ≡ table
        → (k : ℕ) → IsAskedOf name past request (if a.table == k then Some a.spec.action else None) k
    asked-now a table same at k =
        subst (λ (b : AttachedHist). IsAskedOf name past request (if b.table == k then Some b.spec.action else None) k) (sym same)
        (subst (λ (n : ℕ). IsAskedOf name past request (if n == k then Some spec.action else None) k) at
        (tables-attached name past event are.id written.append written.text.now are.named spec k is lacks))

    -- it is the newest
    newest-now : (a : AttachedHist) (table : ℕ) → a ≡ new_as written.number table spec
        → IsNewest a.number (kept_trigger name past event) (if written.append then kept_hists name past event else [])
    newest-now a table same = rw (same, ← number) (newest-left name past event kept written.append are few)

  -- ---- one that names the table of another trigger

  module _ (other : AttachedHist) (found : named_in spec (left_of kept written.append) ≡ Some other) where
    joined-fits : (event : Definition) (name : Option (List ℕ)) (past : List Request) → AreKept name past event kept → (fits : Bool) → is_fitting spec other.spec ≡ fits
        → fits_named name past event written.append spec ≡ fits
    joined-fits event name past are fits at =
        let joined = named-there name past event kept written.append spec other are found in
        let here : is_fitting spec joined.t.spec ≡ fits = ap (λ (a : AttachedHist). is_fitting spec a.spec) joined.seen ∙ at in
        sym (book-alike name past event kept written.append spec are).fits ∙ ap (fits_that spec) joined.found ∙ here

    -- it counts in that table
    join-done : (attached : AttachedHist) → is_fitting spec other.spec ≡ true → attached ≡ new_as written.number other.table spec
        → IsAsked spec kept written (Ok (AttachHist attached))
    join-done attached fits same = λ event name past number are is.
        let joined = named-there name past event kept written.append spec other are found in
        let table : table_or (length past) (named_by spec (all_left name past event written.append)) ≡ other.table =
        sym (book-alike name past event kept written.append spec are).table ∙ ap (table_or (length past)) joined.found
        ∙ ap (λ (a : AttachedHist). a.table) joined.seen in
        let here : is_fitting spec joined.t.spec ≡ true = ap (λ (a : AttachedHist). is_fitting spec a.spec) joined.seen ∙ fits in
        let there = in-contains joined.t (hist_triggers name past) joined.there in
        let fitting = joined-fits event name past are true fits in (
          fitting-answer event name past number are is true fitting,
          record {
            snapshot = snapshot-stays name past event written.append written.text.now (Ok (said.Hist spec)) is refl;
            hists = hists-now event name past number are is attached other.table same table;
            possible = newest-now event name past number are is attached other.table same;
            tables = asked-now event name past number are is attached other.table same table;
            joined = subst (Joins name past) (sym same) (record {
              t = joined.t;
              there = there;
              table = ap (λ (a : AttachedHist). a.table) joined.seen;
              alike = said-alike name past event written.text.now spec joined.t there is here;
            });
            fitting = fit-attached name past event are.id written.append written.text.now spec are.named is (lacks event name past number are is) fitting;
            spare = rw is refl;
          },
        )

    -- there is no memory for it
    join-memory : is_fitting spec other.spec ≡ true → IsAsked spec kept written (Err refusal.Memory)
    join-memory fits = λ event name past number are is.
        done-late (trigger_answer name past written.append written.text.now event)
        (fitting-answer event name past number are is true (joined-fits event name past are true fits))

    -- it does not fit that table
    join-refused : is_fitting spec other.spec ≡ false → IsAsked spec kept written (Err refusal.TriggerExists)
    join-refused fits = λ event name past number are is.
        refused refusal.TriggerExists (trigger_answer name past written.append written.text.now event)
        (fitting-answer event name past number are is false (joined-fits event name past are false fits))

    pub ask-joined : (result : Result TriggerChange Refusal) → IsJoinedChange written.number spec other result → IsAsked spec kept written result
    ask-joined (Ok (AttachHist attached)) is = join-done attached is.0 is.1
    ask-joined (Ok change) is = absurd is
    ask-joined (Err refused) is = subst (λ (r : Refusal). IsAsked spec kept written (Err r)) (sym is) (by (is_fitting spec other.spec) refl)
      where
        by : (fits : Bool) → is_fitting spec other.spec ≡ fits
            → IsAsked spec kept written (Err (if fits then refusal.Memory else refusal.TriggerExists))
        by true fits = join-memory fits
        by false fits = join-refused fits

  -- ---- one that names none

  module _ (lost : named_in spec (left_of kept written.append) ≡ None) where
    made-fits : (event : Definition) (name : Option (List ℕ)) (past : List Request) → AreKept name past event kept → fits_named name past event written.append spec ≡ true
    made-fits event name past are =
        sym (book-alike name past event kept written.append spec are).fits
        ∙ ap (fits_that spec) (none-there name past event kept written.append spec are lost)

    -- a table is made with it
    make-done : (made : Box NewHist) → made.value.attached ≡ new_as written.number written.number spec → made.value.hist.spec ≡ spec
        → StandsFor made.value.hist [] → made.value.hist.paused ≡ is_pause spec.action → IsAsked spec kept written (Ok (MakeHist made))
    make-done made same says empty paused = λ event name past number are is.
        let table : table_or (length past) (named_by spec (all_left name past event written.append)) ≡ written.number =
        sym (book-alike name past event kept written.append spec are).table
        ∙ ap (table_or (length past)) (none-there name past event kept written.append spec are lost) ∙ number in
        let fitting = made-fits event name past are in (
          fitting-answer event name past number are is true fitting,
          record {
            snapshot = snapshot-stays name past event written.append written.text.now (Ok (said.Hist spec)) is refl;
            hists = hists-now event name past number are is made.value.attached written.number same table;
            possible = newest-now event name past number are is made.value.attached written.number same;
            tables = asked-now event name past number are is made.value.attached written.number same table;
            joined = record {
              table = ap (λ (a : AttachedHist). a.table) same ∙ sym number;
              spec = says ∙ sym (ap (λ (a : AttachedHist). a.spec) same);
              empty = empty;
              paused = paused ∙ sym (ap (λ (a : AttachedHist). is_pause a.spec.action) same);
            };
            fitting = fit-attached name past event are.id written.append written.text.now spec are.named is (lacks event name past number are is) fitting;
            spare = rw is refl;
          },
        )

    -- there is no memory for it
    make-memory : IsAsked spec kept written (Err refusal.Memory)
    make-memory = λ event name past number are is.
        done-late (trigger_answer name past written.append written.text.now event)
        (fitting-answer event name past number are is true (made-fits event name past are))

    pub ask-made : (result : Result TriggerChange Refusal) → IsMadeChange written.number spec result → IsAsked spec kept written result
    ask-made (Ok (MakeHist made)) is = make-done made is.0 is.1 is.2 is.3
    ask-made (Ok change) is = absurd is
    ask-made (Err refused) is = subst (λ (r : Refusal). IsAsked spec kept written (Err r)) (sym is) make-memory
