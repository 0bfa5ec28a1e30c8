-- Hist triggers of one name share a table, which is made with the first of them and goes with the last; and in a legal history they fit each other.
use Rattle.std.proofs.Common.{◌≡◌, ◌⊎◌, inl, inr, ℕ, ◌<◌, ◌==◌, arith, Bool, true, false, not, ◌&&◌, if◌then◌else◌, List, [], ◌∷◌, ◌++◌, length, filter, Option, None, Some, IsOk, Result, Ok, Err, refl, sym, ap, ◌∙◌, subst, eq-eqb, eqb-true}
use Rattle.std.specs.List.{Contains}
use Rattle.std.proofs.lemmas.Bool.{false≢true}
use Rattle.trace_format.specs.Definitions.{Definition}
use Rattle.trace_trigger.specs.FittingSpecs.{is_fitting}
use Rattle.trace_trigger.specs.HistSpecs.{SpecSeen}
use Rattle.trace_trigger.specs.TriggerTexts.{said_of}
use Rattle.trace_trigger.specs.declared.fault.TriggerFault.{TriggerFault}
use Rattle.trace_trigger.specs.declared.trigger.TriggerText.{TriggerText}
use Rattle.trace_trigger.specs.declared.trigger.TriggerText.TheVariants.{Nothing, AttachSnapshot, RemoveSnapshot, Hist, RemoveHist}
use Rattle.trace_trigger.proofs.FittingLaws.{fitting_fits, fitting_is_reflexive, fitting_is_symmetric, fitting_is_transitive}
use Rattle.trace_command.specs.Requests.{Request}
use Rattle.trace_command.specs.declared.command.Config.{Config}
use Rattle.tracer_specification.specs.History.{answer_with_room, hist_answer, new_hist_answer, said_answer}
use Rattle.tracer_specification.specs.HistTriggers.{HistTrigger, Written, fits_that, has_same, hist_triggers, hists_after, hists_of, hists_said, hits_of, is_name_of, is_of, is_pause, is_paused, kept_by, left_by, named_by, names_table_of, new_hist, says_same, table_or, those_of, written_to}
use Rattle.tracer_specification.specs.Settings.{makes}
use Rattle.tracer_specification.specs.Pasts.{AreDone}
use Rattle.tracer_specification.specs.TableLaws.{NamedTablesAreShared, SharedTablesFit, TablesGoWithTheirLast}
use Rattle.tracer_specification.specs.Triggers.{Trigger, snapshot_trigger_of}
use Rattle.tracer_specification.proofs.AskedTables.{asked-new}
use Rattle.tracer_specification.proofs.AttachedHists.{attached-then, is-there}
use Rattle.tracer_specification.proofs.EventHists.{own-left, tables-apart, tables-made_before}
use Rattle.tracer_specification.proofs.FewTriggers.{new-was_taken, said-of_written}
use Rattle.tracer_specification.proofs.Members.{IsIn, all-in, contains-in, each-in, in-all, in-filter, in-push, left-in}
use Rattle.tracer_specification.proofs.TableSteps.{table-new}
use Rattle.tracer_specification.proofs.Tables.{AreApart, IsBefore, found-in, one-or_apart}

-- ---- they are shared by name

shared : (t u : HistTrigger) (hists : List HistTrigger) → (t ≡ u) ⊎ ((t.table == u.table) ≡ is_name_of t.spec.name u.spec.name) ×
    ((t.number == u.number) ≡ false)
    → is_name_of t.spec.name u.spec.name ≡ true → t.table ≡ u.table
shared t u hists (inl same) named = ap (λ (v : HistTrigger). v.table) same
shared t u hists (inr (tables, numbers)) named = eqb-true t.table u.table (tables ∙ named)

-- of triggers that share tables by name alone, those of one name share theirs
pub one-table : (t u : HistTrigger) (hists : List HistTrigger) → AreApart hists → IsIn t hists → IsIn u hists
    → is_name_of t.spec.name u.spec.name ≡ true → t.table ≡ u.table
one-table t u hists apart first second = shared t u hists (one-or_apart t u hists apart first second)

named-share : (instance : Option (List ℕ)) (past : List Request) (t u : HistTrigger)
    → Contains (hist_triggers instance past) t → Contains (hist_triggers instance past) u
    → is_name_of t.spec.name u.spec.name ≡ true → t.table ≡ u.table
named-share instance past t u first second =
    let hists = hist_triggers instance past in
    one-table t u hists (tables-apart instance past) (contains-in t hists first) (contains-in u hists second)

share-named : (instance : Option (List ℕ)) (past : List Request) (t u : HistTrigger)
    → Contains (hist_triggers instance past) t → Contains (hist_triggers instance past) u
    → t.table ≡ u.table → (t ≡ u) ⊎ (is_name_of t.spec.name u.spec.name ≡ true)
share-named instance past t u first second same =
    let hists = hist_triggers instance past in
    elim (one-or_apart t u hists (tables-apart instance past) (contains-in t hists first) (contains-in u hists second)) [
      | inl one ↦ inl one
      | inr (tables, numbers) ↦ inr (sym tables ∙ eq-eqb t.table u.table same)
    ]

pub named_tables_are_shared : NamedTablesAreShared
named_tables_are_shared instance past t u first second = (named-share instance past t u first second, share-named instance past t u first second)

-- ---- they go with the last

new-table : (number : ℕ) (event : Definition) (hists : List HistTrigger) (spec : SpecSeen) (t : HistTrigger) → t ≡ new_hist number event hists spec
    → ((u : HistTrigger) → IsIn u hists → names_table_of spec u ≡ false) → t.table ≡ number
new-table number event hists spec t is none = ap (λ (u : HistTrigger). u.table) is ∙ by (named_by spec hists) refl
  where
    by : (found : Option HistTrigger) → named_by spec hists ≡ found → table_or number found ≡ number
    by None at = refl
    by (Some v) at = let found = found-in spec hists v at in absurd (false≢true (sym (none v found.there) ∙ found.names))

pub tables_go_with_their_last : TablesGoWithTheirLast
tables_go_with_their_last instance t past request by none =
    (new.1, in-all (λ other. t.table ≡ other.table → t ≡ other) (hist_triggers instance (request ∷ past)) alone)
  where
    left : List HistTrigger
    left = left_by t.event by.append (hist_triggers instance past)

    made : t.table ≡ length past
    made = new-table (length past) t.event left t.spec t by.is (λ u there. all-in (λ v. is_name_of t.spec.name v.spec.name ≡ false) u left none there)

    new : (is_paused instance t.table (request ∷ past) ≡ is_pause t.spec.action) × (hits_of instance t.table (request ∷ past) ≡ [])
    new = table-new instance past request t.table t.spec.action made (asked-new instance past request t by)

    alone : (u : HistTrigger) → IsIn u (hist_triggers instance (request ∷ past)) → t.table ≡ u.table → t ≡ u
    alone u there same =
        elim (one-or_apart t u (hist_triggers instance (request ∷ past)) (tables-apart instance (request ∷ past))
        (is-there instance t past request by) there) [
          | inl one ↦ one
          | inr (tables, numbers) ↦
              let other = attached-then instance past request u there (sym same ∙ made) in
              let both : t.number ≡ u.number = ap (λ (v : HistTrigger). v.number) by.is ∙ sym (ap (λ (v : HistTrigger). v.number) other.is) in
              absurd (false≢true (sym numbers ∙ eq-eqb t.number u.number both))
        ]

-- ---- they fit each other

-- triggers that share a table fit each other
abbrev pub AllFit : List HistTrigger → Type 0
AllFit hists = (t u : HistTrigger) → IsIn t hists → IsIn u hists → t.table ≡ u.table → is_fitting t.spec u.spec ≡ true

fit-none : AllFit []
fit-none t u first second same = absurd first

pub fit-fewer : (few many : List HistTrigger) → ((t : HistTrigger) → IsIn t few → IsIn t many) → AllFit many → AllFit few
fit-fewer few many among fit t u one other same = fit t u (among t one) (among u other) same

-- their tables were made before a new one
abbrev pub AreOld : ℕ → List HistTrigger → Type 0
AreOld number hists = (t : HistTrigger) → IsIn t hists → t.table < number

-- a new one that fits the one that it names fits all of its table
new-fits : (number : ℕ) (event : Definition) (hists : List HistTrigger) (spec : SpecSeen) → AreOld number hists → AllFit hists
    → fits_that spec (named_by spec hists) ≡ true → (u : HistTrigger) → IsIn u hists → (new_hist number event hists spec).table ≡ u.table
    → is_fitting spec u.spec ≡ true
new-fits number event hists spec old fit fits u there same = by (named_by spec hists) refl fits same
  where
    by : (found : Option HistTrigger) → named_by spec hists ≡ found → fits_that spec found ≡ true → table_or number found ≡ u.table
        → is_fitting spec u.spec ≡ true
    by None none fits same = let less = old u there in absurd (omega (arith, less, same))
    by (Some v) found fits same =
        fitting_is_transitive spec v.spec u.spec fits (fit v u (found-in spec hists v found).there there same)

pub fit-new : (number : ℕ) (event : Definition) (hists : List HistTrigger) (spec : SpecSeen) → AreOld number hists → AllFit hists
    → fits_that spec (named_by spec hists) ≡ true → AllFit (hists ++ new_hist number event hists spec ∷ [])
fit-new number event hists spec old fit fits t u one other same =
    by (in-push t new hists one) (in-push u new hists other)
  where
    new : HistTrigger
    new = new_hist number event hists spec

    with-new : (v : HistTrigger) → IsIn v hists → new.table ≡ v.table → is_fitting spec v.spec ≡ true
    with-new v there at = new-fits number event hists spec old fit fits v there at

    by : IsIn t hists ⊎ (new ≡ t) → IsIn u hists ⊎ (new ≡ u) → is_fitting t.spec u.spec ≡ true
    by (inl first) (inl second) = fit t u first second same
    by (inl first) (inr is) =
        let at : new.table ≡ t.table = ap (λ (v : HistTrigger). v.table) is ∙ sym same in
        subst (λ (v : HistTrigger). is_fitting t.spec v.spec ≡ true) is (fitting_is_symmetric spec t.spec (with-new t first at))
    by (inr is) (inl second) =
        let at : new.table ≡ u.table = ap (λ (v : HistTrigger). v.table) is ∙ same in
        subst (λ (v : HistTrigger). is_fitting v.spec u.spec ≡ true) is (with-new u second at)
    by (inr is) (inr also) =
        subst (λ (v : HistTrigger). is_fitting v.spec u.spec ≡ true) is
        (subst (λ (v : HistTrigger). is_fitting spec v.spec ≡ true) also (fitting_is_reflexive spec))

-- those that a string leaves fit each other, and their tables were made before
pub left-fit : (event : Definition) (append : Bool) (hists : List HistTrigger) → AllFit hists → AllFit (left_by event append hists)
left-fit event append hists fit = fit-fewer (left_by event append hists) hists (λ t there. (left-in t event append hists there).0) fit

pub left-old : (instance : Option (List ℕ)) (past : List Request) (event : Definition) (append : Bool)
    → AreOld (length past) (left_by event append (hist_triggers instance past))
left-old instance past event append t there =
    (each-in (IsBefore (length past)) t (hist_triggers instance past) (tables-made_before instance past)
    (left-in t event append (hist_triggers instance past) there).0).table

-- what a text says of a hist trigger that is attached fits the table that it names
fits-named : (g : Config) (instance : Option (List ℕ)) (past : List Request) (request : Request) (w : Written) (spec : SpecSeen)
    → IsOk (answer_with_room g past request) → written_to instance past request ≡ Some w → said_of w.event w.text ≡ Ok (Hist spec)
    → has_same spec (those_of w.event (left_by w.event w.append (hist_triggers instance past))) ≡ false
    → fits_that spec (named_by spec (left_by w.event w.append (hist_triggers instance past))) ≡ true
fits-named g instance past request w spec done written says none =
    (new-was_taken attached own (fits_that spec (named_by spec left)) spec.action asked).1
  where
    left : List HistTrigger
    left = left_by w.event w.append (hist_triggers instance past)

    own : List HistTrigger
    own = kept_by w.append (hists_of instance w.event past)

    attached : Option Trigger
    attached = snapshot_trigger_of instance w.event past

    told : IsOk (hist_answer attached own left spec)
    told =
        subst (λ (s : Result TriggerText TriggerFault). IsOk (said_answer w.append attached own left s)) says
        (said-of_written g instance past request w done written)

    alone : has_same spec own ≡ false
    alone = ap (has_same spec) (sym (own-left w.event w.append (hist_triggers instance past))) ∙ none

    asked : IsOk (new_hist_answer attached own (fits_that spec (named_by spec left)) spec.action)
    asked = rw alone at told

-- it stays so with each string that is written
fit-said : (number : ℕ) (event : Definition) (hists : List HistTrigger) (said : Result TriggerText TriggerFault) → AreOld number hists → AllFit hists
    → ((spec : SpecSeen) → said ≡ Ok (Hist spec) → has_same spec (those_of event hists) ≡ false → fits_that spec (named_by spec hists) ≡ true)
    → AllFit (hists_said number event hists said)
fit-said number event hists (Ok (Hist spec)) old fit fits = by (has_same spec (those_of event hists)) refl
  where
    by : (same : Bool) → has_same spec (those_of event hists) ≡ same → AllFit (if same then hists else hists ++ new_hist number event hists spec ∷ [])
    by true is = fit
    by false is = fit-new number event hists spec old fit (fits spec refl is)
fit-said number event hists (Ok (RemoveHist spec)) old fit fits =
    let stays : HistTrigger → Bool = λ t. not (is_of event t && says_same spec t) in
    fit-fewer (filter stays hists) hists (λ t there. (in-filter t stays hists there).0) fit
fit-said number event hists (Ok (AttachSnapshot trigger)) old fit fits = fit
fit-said number event hists (Ok RemoveSnapshot) old fit fits = fit
fit-said number event hists (Ok Nothing) old fit fits = fit
fit-said number event hists (Err fault) old fit fits = fit

-- and so with each request that is done
pub fit-step : (g : Config) (instance : Option (List ℕ)) (past : List Request) (request : Request) → IsOk (answer_with_room g past request)
    → AllFit (hist_triggers instance past) → AllFit (hist_triggers instance (request ∷ past))
fit-step g instance past request done fit = by (makes instance request) (written_to instance past request) refl
  where
    by : (new : Bool) (written : Option Written) → written_to instance past request ≡ written
        → AllFit (if new then [] else hists_after (length past) written (hist_triggers instance past))
    by true written is = fit-none
    by false None is = fit
    by false (Some w) is =
        fit-said (length past) w.event (left_by w.event w.append (hist_triggers instance past)) (said_of w.event w.text)
        (left-old instance past w.event w.append) (left-fit w.event w.append (hist_triggers instance past) fit)
        (λ spec says none. fits-named g instance past request w spec done is says none)

pub fit-done : (g : Config) (past : List Request) (instance : Option (List ℕ)) → AreDone g past → AllFit (hist_triggers instance past)
fit-done g [] instance done = fit-none
fit-done g (request ∷ past) instance done = fit-step g instance past request done.0 (fit-done g past instance done.1)

pub shared_tables_fit : SharedTablesFit
shared_tables_fit g past instance t u done first second same =
    let hists = hist_triggers instance past in
    fitting_fits t.spec u.spec (fit-done g past instance done t u (contains-in t hists first) (contains-in u hists second) same)
