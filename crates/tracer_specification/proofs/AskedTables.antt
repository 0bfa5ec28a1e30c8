-- What is asked of tables, through any of their triggers, and what leaves them as they are.
use Rattle.std.proofs.Common.{◌≡◌, inl, inr, ℕ, Bool, true, false, ◌||◌, if◌then◌else◌, List, [], ◌∷◌, ◌++◌, length, Option, None, Some, option_map, Ok, refl, sym, ap, ◌∙◌, subst, append-nil, ◌==◌, eqb-true}
use Rattle.std.proofs.lemmas.Bool.{false≢true}
use Rattle.std.proofs.lemmas.Slice.Eq.{bytes_eq-Decides}
use Rattle.hist_entries.specs.Hits.{Hit}
use Rattle.trace_format.specs.Definitions.{Definition}
use Rattle.trace_trigger.specs.HistSpecs.{SpecSeen}
use Rattle.trace_trigger.specs.SameSpecs.{IsSame}
use Rattle.trace_trigger.specs.TriggerTexts.{said_of}
use Rattle.trace_trigger.specs.declared.spec.Action.{Action}
use Rattle.trace_trigger.specs.declared.spec.Action.TheVariants.{Attach, Pause, Clear}
use Rattle.trace_trigger.specs.declared.trigger.TriggerText.TheVariants.{Hist}
use Rattle.trace_command.specs.Paths.{OfEvent}
use Rattle.trace_command.specs.Requests.{Request, WriteFile}
use Rattle.trace_command.specs.declared.file_name.EventFile.TheVariants as per_event
use Rattle.tracer_specification.specs.Emissions.{Emitted, emitted}
use Rattle.tracer_specification.specs.HistTriggers.{HistTrigger, Written, asked_by, counted_by, empties, has_same, hist_triggers, hists_after, hists_of, hits_of, is_of, is_pause, is_paused, paused_after, says_same, those_of, written_for, written_to}
use Rattle.tracer_specification.specs.Laws.{IsAttachedBy}
use Rattle.tracer_specification.specs.Settings.{NumberedEvent, event_named}
use Rattle.tracer_specification.specs.TableLaws.{ClearsLeaveNone, JoiningPausesOrLeaves, OtherRequestsLeaveHistTriggers, OtherRequestsLeaveTables, OtherTriggersLeaveTables, TablesAreAskedThroughEach, TablesBeginEmpty}
use Rattle.tracer_specification.proofs.AttachedHists.{attached-then, is-there}
use Rattle.tracer_specification.proofs.EventHists.{hists_of-after, own_after}
use Rattle.tracer_specification.proofs.HistTriggers.{same-itself, same-there}
use Rattle.tracer_specification.proofs.Members.{IsIn, all-in, each-in, filter-in, in-all}
use Rattle.tracer_specification.proofs.OwnFiles.{IsNamed, all-named}
use Rattle.tracer_specification.proofs.PipeReads.{is_same-self}
use Rattle.tracer_specification.proofs.TableSteps.{asked-none, asked-through, asked-unwritten, emitted-unwritten, nothing-counted, table-new}

-- ---- what is asked through a trigger

any-same : (spec : SpecSeen) (t : HistTrigger) (hists : List HistTrigger) → IsIn t hists → says_same spec t ≡ true → has_same spec hists ≡ true
any-same spec t [] there says = absurd there
any-same spec t (u ∷ hists) (inl same) says = ap (λ (b : Bool). b || has_same spec hists) (ap (says_same spec) same ∙ says)
any-same spec t (u ∷ hists) (inr there) says = by (says_same spec u) (any-same spec t hists there says)
  where
    by : (here : Bool) → has_same spec hists ≡ true → (here || has_same spec hists) ≡ true
    by true rest = refl
    by false rest = rest

abbrev asking : Option (List ℕ) → HistTrigger → List ℕ → Request
asking instance t text = WriteFile instance (Some (OfEvent t.event.name per_event.Trigger)) true text

asked-of_it : (instance : Option (List ℕ)) (past : List Request) (text : List ℕ) (spec : SpecSeen) (t : HistTrigger)
    → IsIn t (hist_triggers instance past)
    → said_of t.event text ≡ Ok (Hist spec) → IsSame spec t.spec → asked_by instance t.table past (asking instance t text) ≡ Some spec.action
asked-of_it instance past text spec t there said same =
    asked-through instance past (asking instance t text) what spec t written said (subst (IsIn t) (sym stays) there) own says
  where
    declared : IsNamed past t
    declared = each-in (IsNamed past) t (hist_triggers instance past) (all-named instance past) there

    what : Written
    what = record { event = t.event; append = true; text = text }

    written : written_to instance past (asking instance t text) ≡ Some what
    written =
        ap (λ (b : Bool). if b then option_map (λ (k : NumberedEvent). record { event = k.event; append = true; text = text })
        (event_named t.event.name past)
        else None) (is_same-self instance)
        ∙ ap (option_map (λ (k : NumberedEvent). (let w : Written = record { event = k.event; append = true; text = text } in w))) declared.there
        ∙ ap (λ (event : Definition). (let w : Option Written = Some (record { event = event; append = true; text = text }) in w)) declared.event

    own : is_of t.event t ≡ true
    own = (bytes_eq-Decides t.event.name t.event.name).1 refl

    says : says_same spec t ≡ true
    says = same-there spec t.spec same

    stays : hist_triggers instance (asking instance t text ∷ past) ≡ hist_triggers instance past
    stays =
        let some : has_same spec (those_of t.event (hist_triggers instance past)) ≡ true =
        any-same spec t (those_of t.event (hist_triggers instance past)) (filter-in t (is_of t.event) (hist_triggers instance past) there own) says in
        ap (λ (o : Option Written). hists_after (length past) o (hist_triggers instance past)) written
        ∙ rw (said, some) refl

pub tables_are_asked_through_each : TablesAreAskedThroughEach
tables_are_asked_through_each instance past text spec =
    in-all (λ t. said_of t.event text ≡ Ok (Hist spec) → IsSame spec t.spec
    → is_paused instance t.table (asking instance t text ∷ past) ≡ paused_after (Some spec.action) (is_paused instance t.table past))
    (hist_triggers instance past)
    (λ t there said same. ap (λ (a : Option Action). paused_after a (is_paused instance t.table past))
    (asked-of_it instance past text spec t there said same))

pub clears_leave_none : ClearsLeaveNone
clears_leave_none instance past text spec =
    in-all (λ t. said_of t.event text ≡ Ok (Hist spec) → IsSame spec t.spec → spec.action ≡ Clear
    → (hits_of instance t.table (asking instance t text ∷ past) ≡ []) ×
    (is_paused instance t.table (asking instance t text ∷ past) ≡ is_paused instance t.table past))
    (hist_triggers instance past) emptied
  where
    emptied : (t : HistTrigger) → IsIn t (hist_triggers instance past) → said_of t.event text ≡ Ok (Hist spec) → IsSame spec t.spec → spec.action
        ≡ Clear
        → (hits_of instance t.table (asking instance t text ∷ past) ≡ []) ×
        (is_paused instance t.table (asking instance t text ∷ past) ≡ is_paused instance t.table past)
    emptied t there said same clear =
        let asked : asked_by instance t.table past (asking instance t text) ≡ Some Clear =
        asked-of_it instance past text spec t there said same ∙ ap (λ (a : Action). (let o : Option Action = Some a in o)) clear in (
          ap (λ (a : Option Action). if empties a then [] else hits_of instance t.table past
              ++ counted_by t.table (is_paused instance t.table past) (hist_triggers instance past) None) asked,
          ap (λ (a : Option Action). paused_after a (is_paused instance t.table past)) asked,
        )

-- ---- tables that are made

-- the text that attaches a trigger asks its table for what the trigger says
pub asked-new : (instance : Option (List ℕ)) (past : List Request) (request : Request) (t : HistTrigger) → IsAttachedBy instance t past request
    → asked_by instance t.table past request ≡ Some t.spec.action
asked-new instance past request t by =
    asked-through instance past request (record { event = t.event; append = by.append; text = by.text }) t.spec t by.written by.said
    (is-there instance t past request by) ((bytes_eq-Decides t.event.name t.event.name).1 refl) (same-itself t.spec)

pub tables_begin_empty : TablesBeginEmpty
tables_begin_empty instance past request =
    in-all (λ t. t.table ≡ length past
    → (hits_of instance t.table (request ∷ past) ≡ []) × (is_paused instance t.table (request ∷ past) ≡ is_pause t.spec.action))
    (hist_triggers instance (request ∷ past)) begins
  where
    begins : (t : HistTrigger) → IsIn t (hist_triggers instance (request ∷ past)) → t.table ≡ length past
        → (hits_of instance t.table (request ∷ past) ≡ []) × (is_paused instance t.table (request ∷ past) ≡ is_pause t.spec.action)
    begins t there is =
        let new = table-new instance past request t.table t.spec.action is
        (asked-new instance past request t (attached-then instance past request t there is)) in
        (new.1, new.0)

-- ---- tables that are joined

-- what emits nothing and empties no table leaves the rows that it counted
rows-stay : (instance : Option (List ℕ)) (table : ℕ) (past : List Request) (request : Request) → empties (asked_by instance table past request) ≡ false
    → emitted past request ≡ None → hits_of instance table (request ∷ past) ≡ hits_of instance table past
rows-stay instance table past request kept quiet =
    ap (λ (b : Bool). if b then [] else hits_of instance table past
    ++ counted_by table (is_paused instance table past) (hist_triggers instance past) (emitted past request)) kept
    ∙ ap (λ (o : Option Emitted). hits_of instance table past ++ counted_by table (is_paused instance table past) (hist_triggers instance past) o) quiet
    ∙ ap (λ (rows : List Hit). hits_of instance table past ++ rows)
    (nothing-counted table (is_paused instance table past) (hist_triggers instance past))
    ∙ append-nil (hits_of instance table past)

-- what writes to a trigger file emits nothing
written-quiet : (instance : Option (List ℕ)) (past : List Request) (request : Request) (w : Written) → written_to instance past request ≡ Some w
    → emitted past request ≡ None
written-quiet instance past request w written = by (emitted past request) refl
  where
    by : (e : Option Emitted) → emitted past request ≡ e → e ≡ None
    by None is = refl
    by (Some e) is = let none : None ≡ Some w = sym (emitted-unwritten instance past request e is) ∙ written in absurd (cc)

pub joining_pauses_or_leaves : JoiningPausesOrLeaves
joining_pauses_or_leaves instance t past request by =
    let asked = asked-new instance past request t by in
    let after : (a : Action) → t.spec.action ≡ a
    → is_paused instance t.table (request ∷ past) ≡ paused_after (Some a) (is_paused instance t.table past) =
    λ a is. ap (λ (o : Option Action). paused_after o (is_paused instance t.table past)) asked
    ∙ ap (λ (b : Action). paused_after (Some b) (is_paused instance t.table past)) is in (
      after Pause,
      after Attach,
      λ kept. rows-stay instance t.table past request (ap empties asked ∙ kept) (written-quiet instance past request _ by.written),
    )

-- ---- all other requests

pub other_requests_leave_hist_triggers : OtherRequestsLeaveHistTriggers
other_requests_leave_hist_triggers instance event past request alive unwritten =
    hists_of-after instance event past request alive
    ∙ ap (λ (o : Option Written). own_after (length past) (hist_triggers instance past) o (hists_of instance event past)) unwritten

pub other_requests_leave_tables : OtherRequestsLeaveTables
other_requests_leave_tables instance table past request unwritten =
    let none : asked_by instance table past request ≡ None =
    asked-unwritten instance table past request
    (λ t there. all-in (λ (u : HistTrigger). u.table ≡ table → written_for u.event (written_to instance past request) ≡ None) t
    (hist_triggers instance (request ∷ past)) unwritten there) in (
      ap (λ (a : Option Action). paused_after a (is_paused instance table past)) none,
      λ quiet. rows-stay instance table past request (ap empties none) quiet,
    )

pub other_triggers_leave_tables : OtherTriggersLeaveTables
other_triggers_leave_tables instance table past request unsaid =
    let none : asked_by instance table past request ≡ None = asked-none instance table past request apart in (
      ap (λ (a : Option Action). paused_after a (is_paused instance table past)) none,
      λ quiet. rows-stay instance table past request (ap empties none) quiet,
    )
  where
    apart : (w : Written) (spec : SpecSeen) (t : HistTrigger) → written_to instance past request ≡ Some w → said_of w.event w.text ≡ Ok (Hist spec)
        → IsIn t (hist_triggers instance (request ∷ past)) → is_of w.event t ≡ true → says_same spec t ≡ true → (t.table == table) ≡ false
    apart w spec t written said there own says = by (t.table == table) refl
      where
        by : (same : Bool) → (t.table == table) ≡ same → same ≡ false
        by true is =
            let differs : says_same spec t ≡ false =
            all-in (λ (u : HistTrigger). u.table ≡ table → is_of w.event u ≡ true → says_same spec u ≡ false) t
            (hist_triggers instance (request ∷ past)) (unsaid w spec written said) there (eqb-true t.table table is) own in
            absurd (false≢true (sym differs ∙ says))
        by false is = refl
