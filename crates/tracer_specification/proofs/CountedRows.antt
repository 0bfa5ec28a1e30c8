-- The rows that a table counts: those of the emissions that its triggers met while it was not paused, since it was made or last emptied.
use Rattle.std.proofs.Common.{◌≡◌, ℕ, ◌==◌, Bool, true, false, ◌&&◌, ◌||◌, if◌then◌else◌, List, [], ◌∷◌, ◌++◌, map, All, Option, None, Some, refl, sym, ap, ◌∙◌, subst, append-nil, eqb-true}
use Rattle.std.specs.List.{AllByRecursion, Contains, flat_map}
use Rattle.std.proofs.lemmas.List.{append_assoc}
use Rattle.std.proofs.lemmas.List.Elements.{All-nil, All-append, All-cons}
use Rattle.hist_entries.specs.Hits.{Hit}
use Rattle.trace_trigger.specs.declared.spec.Action.{Action}
use Rattle.trace_command.specs.Requests.{Request}
use Rattle.tracer_specification.specs.Emissions.{Emitted, emitted}
use Rattle.tracer_specification.specs.HistTriggers.{HistTrigger, counted_by, counted_hit, empties, hist_triggers, hits_of, is_paused, met_in}
use Rattle.tracer_specification.specs.Laws.{some_later}
use Rattle.tracer_specification.specs.TableLaws.{CountedRowsAreOfEmissions, EmissionsAreCounted, EmissionsAreCountedOnce, IsRowOfEmission, UnmetEmissionsAreNotCounted, clears, meets, rows_met}
use Rattle.tracer_specification.specs.Triggers.{met_by}
use Rattle.tracer_specification.proofs.Members.{IsIn, all-in, both-false, in-contains, in-each}
use Rattle.tracer_specification.proofs.TableSteps.{counted-rows, emitted-unasked, met-rows, rows-none}

-- ---- each row is that of an emission

-- the same emission, one request later
older-row : (instance : Option (List ℕ)) (table : ℕ) (past : List Request) (request : Request) (row : Hit) → clears instance table past request ≡ false
    → IsRowOfEmission instance table past row → IsRowOfEmission instance table (request ∷ past) row
older-row instance table past request row kept is = record {
  later = request ∷ is.later;
  request = is.request;
  before = is.before;
  cut = ap (λ (rs : List Request). request ∷ rs) is.cut;
  kept = let here : clears instance table (is.later ++ is.request ∷ is.before) request ≡ false =
      ap (λ (p : List Request). clears instance table p request) (sym is.cut) ∙ kept in
      (λ i. here i || is.kept i);
  active = is.active;
  e = is.e;
  emission = is.emission;
  t = is.t;
  there = is.there;
  counts = is.counts;
  met = is.met;
  shown = is.shown;
}

-- what an emission brings to a table
new-rows : (instance : Option (List ℕ)) (table : ℕ) (past : List Request) (request : Request)
    → All (IsRowOfEmission instance table (request ∷ past))
    (counted_by table (is_paused instance table past) (hist_triggers instance past) (emitted past request))
new-rows instance table past request = by (is_paused instance table past) refl
  where
    P : Hit → Type 0
    P = IsRowOfEmission instance table (request ∷ past)

    by_met : is_paused instance table past ≡ false → (e : Emitted) → emitted past request ≡ Some e → (t : HistTrigger)
        → Contains (hist_triggers instance past) t → t.table ≡ table → (met : Bool) → meets t e ≡ met
        → All P (map (counted_hit t) (if met then e ∷ [] else []))
    by_met active e emission t there counts false met = All-nil P
    by_met active e emission t there counts true met =
        All-cons P (counted_hit t e) [] (record {
          later = [];
          request = request;
          before = past;
          cut = refl;
          kept = refl;
          active = active;
          e = e;
          emission = emission;
          t = t;
          there = there;
          counts = counts;
          met = met;
          shown = refl;
        }) (All-nil P)

    by_table : is_paused instance table past ≡ false → (e : Emitted) → emitted past request ≡ Some e → (t : HistTrigger)
        → Contains (hist_triggers instance past) t → (own : Bool) → (t.table == table) ≡ own
        → All P (if own then map (counted_hit t) (met_by t.event t.spec.filter (Some e)) else [])
    by_table active e emission t there true own = by_met active e emission t there (eqb-true t.table table own) (meets t e) refl
    by_table active e emission t there false own = All-nil P

    by_hists : is_paused instance table past ≡ false → (e : Emitted) → emitted past request ≡ Some e → (hists : List HistTrigger)
        → AllByRecursion (Contains (hist_triggers instance past)) hists → All P (flat_map (met_in table (Some e)) hists)
    by_hists active e emission [] all = All-nil P
    by_hists active e emission (t ∷ hists) (there, all) =
        All-append P (met_in table (Some e) t) (flat_map (met_in table (Some e)) hists) (by_table active e emission t there (t.table == table) refl)
        (by_hists active e emission hists all)

    by_emitted : is_paused instance table past ≡ false → (o : Option Emitted) → emitted past request ≡ o
        → All P (counted_by table false (hist_triggers instance past) o)
    by_emitted active None emission = subst (All P) (sym (met-rows table None (hist_triggers instance past))) (All-nil P)
    by_emitted active (Some e) emission = by_hists active e emission (hist_triggers instance past)
        (in-each (Contains (hist_triggers instance past)) (hist_triggers instance past) (λ t. in-contains t (hist_triggers instance past)))

    by : (paused : Bool) → is_paused instance table past ≡ paused → All P (counted_by table paused (hist_triggers instance past) (emitted past request))
    by true is = All-nil P
    by false is = by_emitted is (emitted past request) refl

pub counted_rows_are_of_emissions : CountedRowsAreOfEmissions
counted_rows_are_of_emissions instance table [] = All-nil (IsRowOfEmission instance table [])
counted_rows_are_of_emissions instance table (request ∷ past) =
    by (counted_rows_are_of_emissions instance table past) (clears instance table past request) refl
  where
    P : Hit → Type 0
    P = IsRowOfEmission instance table (request ∷ past)

    new : List Hit
    new = counted_by table (is_paused instance table past) (hist_triggers instance past) (emitted past request)

    by : All (IsRowOfEmission instance table past) (hits_of instance table past) → (cleared : Bool) → clears instance table past request ≡ cleared
        → All P (if cleared then [] else hits_of instance table past ++ new)
    by older true is = All-nil P
    by older false is =
        All-append P (hits_of instance table past) new (λ k d within. older-row instance table past request _ is (older k d within))
        (new-rows instance table past request)

-- ---- and the rows of each emission are counted

-- what a table counts of an emission comes after the rows that were counted before it
counted-next : (instance : Option (List ℕ)) (table : ℕ) (past : List Request) (request : Request) (e : Emitted) → emitted past request ≡ Some e
    → hits_of instance table (request ∷ past)
    ≡ hits_of instance table past ++ counted_by table (is_paused instance table past) (hist_triggers instance past) (Some e)
counted-next instance table past request e emission =
    ap (λ (a : Option Action). if empties a then [] else hits_of instance table past
    ++ counted_by table (is_paused instance table past) (hist_triggers instance past) (emitted past request))
    (emitted-unasked instance table past request e emission)
    ∙ ap (λ (o : Option Emitted). hits_of instance table past ++ counted_by table (is_paused instance table past)
    (hist_triggers instance past) o) emission

pub emissions_are_counted_once : EmissionsAreCountedOnce
emissions_are_counted_once instance table past request e emission active =
    counted-next instance table past request e emission
    ∙ ap (λ (paused : Bool). hits_of instance table past ++ counted_by table paused (hist_triggers instance past) (Some e)) active
    ∙ ap (λ (rows : List Hit). hits_of instance table past ++ rows) (counted-rows table (hist_triggers instance past) (Some e))

-- and of an emission that no trigger of a table meets nothing is counted
pub unmet_emissions_are_not_counted : UnmetEmissionsAreNotCounted
unmet_emissions_are_not_counted instance table past request e emission unmet =
    counted-next instance table past request e emission
    ∙ ap (λ (rows : List Hit). hits_of instance table past ++ rows) (by (is_paused instance table past))
    ∙ append-nil (hits_of instance table past)
  where
    hists : List HistTrigger
    hists = hist_triggers instance past

    none : (t : HistTrigger) → IsIn t hists → ((t.table == table) && meets t e) ≡ false
    none t there = own (t.table == table) refl
      where
        own : (same : Bool) → (t.table == table) ≡ same → (same && meets t e) ≡ false
        own true is = all-in (λ (u : HistTrigger). u.table ≡ table → meets u e ≡ false) t hists unmet there (eqb-true t.table table is)
        own false is = refl

    by : (paused : Bool) → counted_by table paused hists (Some e) ≡ []
    by true = refl
    by false = counted-rows table hists (Some e) ∙ rows-none (λ t. t.table == table) e hists none

-- what is counted stays
counted-later : (instance : Option (List ℕ)) (table : ℕ) (later past : List Request) (rows : List Hit)
    → some_later (clears instance table) later past ≡ false → hits_of instance table past ≡ rows
    → (rest : List Hit) × (hits_of instance table (later ++ past) ≡ rows ++ rest)
counted-later instance table [] past rows kept is = ([], is ∙ sym (append-nil rows))
counted-later instance table (next ∷ later) past rows kept is =
    let parts = both-false (clears instance table (later ++ past) next) (some_later (clears instance table) later past) kept in
    let older = counted-later instance table later past rows parts.1 is in
    let new = counted_by table (is_paused instance table (later ++ past)) (hist_triggers instance (later ++ past)) (emitted (later ++ past) next) in (
      older.0 ++ new,
      ap (λ (b : Bool). if b then [] else hits_of instance table (later ++ past) ++ new) parts.0
          ∙ ap (λ (l : List Hit). l ++ new) older.1
          ∙ append_assoc rows older.0 new,
    )

pub emissions_are_counted : EmissionsAreCounted
emissions_are_counted instance table later request before e emission active kept =
    counted-later instance table later (request ∷ before)
    (hits_of instance table before ++ rows_met (λ t. t.table == table) (hist_triggers instance before) (Some e)) kept
    (emissions_are_counted_once instance table before request e emission active)
