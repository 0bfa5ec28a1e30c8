-- A table of an instance one request later: something may be asked of it, it counts the rows of an emission, or it is made.
use Rattle.std.proofs.Common.{◌≡◌, ℕ, Bool, true, false, ◌==◌, ◌&&◌, if◌then◌else◌, List, [], ◌∷◌, ◌++◌, map, bytes_eq, Option, None, Some, option_map, refl, sym, ap, ◌∙◌, subst, arith}
use Rattle.std.specs.List.{flat_map}
use Rattle.std.proofs.lemmas.Slice.Eq.{bytes_eq-Decides}
use Rattle.trace_filter.specs.Filters.{Parsed}
use Rattle.trace_hist.specs.Groups.{grouped}
use Rattle.trace_hist.specs.Hists.{Seen, StandsFor}
use Rattle.hist_entries.specs.Hits.{Hit}
use Rattle.trace_trigger.specs.FittingLaws.{CountsAlike}
use Rattle.trace_trigger.specs.HistSpecs.{SpecSeen}
use Rattle.trace_trigger.specs.SameSpecs.{is_passed}
use Rattle.trace_trigger.specs.declared.spec.Action.{Action}
use Rattle.trace_trigger.specs.declared.spec.Action.TheVariants.{Attach, Pause, Continue, Clear}
use Rattle.trace_command.specs.Requests.{Request}
use Rattle.tracer_specification.specs.Emissions.{Emitted, emitted}
use Rattle.tracer_specification.specs.HistTriggers.{HistTrigger, counted_by, counted_hit, counted_row, empties, hist_triggers, hits_of, is_of, is_pause, is_paused, met_in, paused_after, those_of}
use Rattle.tracer_specification.specs.Triggers.{passes}
use Rattle.tracer_specification.proofs.OwnFiles.{bytes-differ}
use Rattle.tracer_specification.proofs.TableSteps.{unmade}
use Rattle.trace_instance.specs.Changes.{IsAsked, IsMadeFor}
use Rattle.trace_instance.specs.KeptHists.{AreHit, IsHitIf, KeptTable, TableStandsFor, asked_if, attached_as, kept_at, kept_hists, kept_table, row_counted, rows_counted}
use Rattle.trace_instance.specs.declared.hists.AttachedHist.{AttachedHist}
use Rattle.trace_instance.specs.declared.tables.Table.{Table}
use Rattle.trace_instance.proofs.Calm.{either-same}
use Rattle.trace_instance.proofs.HistSteps.{KeepsHists, hits-calm, paused-calm}

-- ---- counting alike

alike-itself : (spec : SpecSeen) → CountsAlike spec spec
alike-itself spec = record { modifiers = refl; values = refl; sort_sources = refl; size = refl }

alike-trans : (one other third : SpecSeen) → CountsAlike one other → CountsAlike other third → CountsAlike one third
alike-trans one other third first second = record {
  modifiers = first.modifiers ∙ second.modifiers;
  values = first.values ∙ second.values;
  sort_sources = first.sort_sources ∙ second.sort_sources;
  size = first.size ∙ second.size;
}

-- ---- a table that is as it was

pub table-alike : (name : Option (List ℕ)) (past : List Request) (old new : List Table) (a : AttachedHist) → kept_at a.table new ≡ kept_at a.table old
    → TableStandsFor name past old a → TableStandsFor name past new a
table-alike name past old new a same stands = record {
  kept = stands.kept;
  there = same ∙ stands.there;
  paused = stands.paused;
  table = stands.table;
  alike = stands.alike;
}

-- the table of another trigger, for one that counts alike
pub table-joined : (name : Option (List ℕ)) (past : List Request) (tables : List Table) (a : AttachedHist) (t : HistTrigger)
    → t.table ≡ a.table → CountsAlike a.spec t.spec → TableStandsFor name past tables (attached_as t) → TableStandsFor name past tables a
table-joined name past tables a t table alike stands = record {
  kept = stands.kept;
  there = ap (λ (n : ℕ). kept_at n tables) (sym table) ∙ stands.there;
  paused = stands.paused ∙ ap (λ (n : ℕ). is_paused name n past) table;
  table = stands.table ∙ ap (λ (n : ℕ). grouped stands.kept.spec (hits_of name n past)) table;
  alike = alike-trans a.spec t.spec stands.kept.spec alike stands.alike;
}

-- ---- a table of which something may be asked

pub none-asked : (found : Option KeptTable) → option_map (asked_if None) found ≡ found
none-asked None = refl
none-asked (Some k) = refl

spec-asked : (asked : Option Action) (k : KeptTable) → (asked_if asked k).spec ≡ k.spec
spec-asked None k = refl
spec-asked (Some action) k = refl

paused-asked : (asked : Option Action) (k : KeptTable) → (asked_if asked k).paused ≡ paused_after asked k.paused
paused-asked None k = refl
paused-asked (Some action) k = refl

table-asked_if : (asked : Option Action) (k : KeptTable) (hits later : List Hit) → k.table ≡ grouped k.spec hits
    → later ≡ (if empties asked then [] else hits) → (asked_if asked k).table ≡ grouped (asked_if asked k).spec later
table-asked_if None k hits later was is = was ∙ ap (grouped k.spec) (sym is)
table-asked_if (Some action) k hits later was is = by (empties (Some action)) is
  where
    by : (emptied : Bool) → later ≡ (if emptied then [] else hits) → (if emptied then grouped k.spec [] else k.table) ≡ grouped k.spec later
    by true none = ap (grouped k.spec) (sym none)
    by false same = was ∙ ap (grouped k.spec) (sym same)

pub table-asked : (name : Option (List ℕ)) (past : List Request) (request : Request) (old new : List Table) (a : AttachedHist) (asked : Option Action)
    → IsAsked name past request asked a.table → kept_at a.table new ≡ option_map (asked_if asked) (kept_at a.table old)
    → TableStandsFor name past old a → TableStandsFor name (request ∷ past) new a
table-asked name past request old new a asked is came stands = record {
  kept = asked_if asked stands.kept;
  there = came ∙ ap (option_map (asked_if asked)) stands.there;
  paused = paused-asked asked stands.kept ∙ ap (paused_after asked) stands.paused ∙ sym is.paused;
  table = table-asked_if asked stands.kept (hits_of name a.table past) (hits_of name a.table (request ∷ past)) stands.table is.hits;
  alike = subst (CountsAlike a.spec) (sym (spec-asked asked stands.kept)) stands.alike;
}

-- ---- a table that is made

paused-new : (action : Action) → paused_after (Some action) false ≡ is_pause action
paused-new Attach = refl
paused-new Pause = refl
paused-new Continue = refl
paused-new Clear = refl

none-emptied : (asked : Option Action) (hits : List Hit) → hits ≡ [] → (if empties asked then [] else hits) ≡ []
none-emptied asked hits none = by (empties asked)
  where
    by : (emptied : Bool) → (if emptied then [] else hits) ≡ []
    by true = refl
    by false = none

pub table-made : (name : Option (List ℕ)) (past : List Request) (request : Request) (new : List Table) (a : AttachedHist) (hist : Seen)
    → IsMadeFor past a hist → IsAsked name past request (Some a.spec.action) a.table → kept_at a.table new ≡ Some (kept_table hist)
    → TableStandsFor name (request ∷ past) new a
unfolding StandsFor
table-made name past request new a hist made is there =
    let at = made.table in
    let before = unmade name a.table past (omega (arith, at)) in record {
      kept = kept_table hist;
      there = there;
      paused = made.paused ∙ sym (paused-new a.spec.action) ∙ ap (paused_after (Some a.spec.action)) (sym before.0) ∙ sym is.paused;
      table = made.empty ∙ ap (grouped hist.spec) (sym (is.hits ∙ none-emptied (Some a.spec.action) (hits_of name a.table past) before.1));
      alike = subst (CountsAlike a.spec) (sym made.spec) (alike-itself a.spec);
    }

-- ---- a table that counts an emission

passes-same : (filter : Option Parsed) (e : Emitted) → passes filter e ≡ is_passed filter (counted_row e)
passes-same None e = refl
passes-same (Some f) e = refl

-- a trigger of its event counts the row that the one which is attached counts
row-own : (table : ℕ) (e : Emitted) (t : HistTrigger) → is_of e.k.event t ≡ true
    → met_in table (Some e) t ≡ row_counted table (counted_row e) (attached_as t)
row-own table e t own =
    let named : bytes_eq t.event.name e.k.event.name ≡ true =
    (bytes_eq-Decides t.event.name e.k.event.name).1 (sym ((bytes_eq-Decides e.k.event.name t.event.name).0 own)) in
    ap (λ (b : Bool). if t.table == table then map (counted_hit t) (if b && passes t.spec.filter e then e ∷ [] else []) else []) named
    ∙ by (t.table == table) (passes t.spec.filter e) (is_passed t.spec.filter (counted_row e)) (passes-same t.spec.filter e)
  where
    by : (same one other : Bool) → one ≡ other
        → (if same then map (counted_hit t) (if true && one then e ∷ [] else []) else []) ≡ (if same && other then counted_hit t e ∷ [] else [])
    by true true true agree = refl
    by true false false agree = refl
    by false one other agree = refl
    by true one other agree = absurd (cc)

-- one of another event counts none
row-other : (table : ℕ) (e : Emitted) (t : HistTrigger) → is_of e.k.event t ≡ false → met_in table (Some e) t ≡ []
row-other table e t other =
    ap (λ (b : Bool). if t.table == table then map (counted_hit t) (if b && passes t.spec.filter e then e ∷ [] else []) else [])
    (bytes-differ e.k.event.name t.event.name other)
    ∙ either-same (t.table == table) []

rows-same : (table : ℕ) (e : Emitted) (hists : List HistTrigger)
    → flat_map (met_in table (Some e)) hists ≡ flat_map (row_counted table (counted_row e)) (map attached_as (those_of e.k.event hists))
rows-same table e [] = refl
rows-same table e (t ∷ hists) = by (is_of e.k.event t) refl (rows-same table e hists)
  where
    own_rows : List HistTrigger → List Hit
    own_rows of_event = flat_map (row_counted table (counted_row e)) (map attached_as of_event)

    by : (own : Bool) → is_of e.k.event t ≡ own → flat_map (met_in table (Some e)) hists ≡ own_rows (those_of e.k.event hists)
        → met_in table (Some e) t ++ flat_map (met_in table (Some e)) hists
        ≡ own_rows (if own then t ∷ those_of e.k.event hists else those_of e.k.event hists)
    by true is same = λ i. row-own table e t is i ++ same i
    by false is same = λ i. row-other table e t is i ++ same i

counted-same : (table : ℕ) (paused : Bool) (e : Emitted) (hists : List HistTrigger)
    → counted_by table paused hists (Some e) ≡ rows_counted table paused (map attached_as (those_of e.k.event hists)) (counted_row e)
counted-same table true e hists = refl
counted-same table false e hists = rows-same table e hists

-- so the table has counted what the requests say
pub table-hit : (name : Option (List ℕ)) (past : List Request) (request : Request) (e : Emitted) (hists : List AttachedHist) (old new : List Table)
    (a : AttachedHist) → KeepsHists name past request → emitted past request ≡ Some e → hists ≡ kept_hists name past e.k.event
    → AreHit (counted_row e) hists old new → TableStandsFor name past old a → TableStandsFor name (request ∷ past) new a
table-hit name past request e hists old new a keeps is own hit stands =
    by (kept_at a.table new) refl (subst (λ (o : Option KeptTable). IsHitIf rows o (kept_at a.table new)) stands.there (hit a.table))
  where
    rows : Bool → List Hit
    rows paused = rows_counted a.table paused hists (counted_row e)

    before : List Hit
    before = hits_of name a.table past

    counted : before ++ rows stands.kept.paused ≡ hits_of name a.table (request ∷ past)
    counted =
        ap (λ (paused : Bool). before ++ rows paused) stands.paused
        ∙ ap (λ (l : List AttachedHist). before ++ rows_counted a.table (is_paused name a.table past) l (counted_row e)) own
        ∙ ap (λ (l : List Hit). before ++ l) (sym (counted-same a.table (is_paused name a.table past) e (hist_triggers name past)))
        ∙ ap (λ (o : Option Emitted). before ++ counted_by a.table (is_paused name a.table past) (hist_triggers name past) o) (sym is)
        ∙ sym (hits-calm name past request a.table keeps)

    by : (found : Option KeptTable) → kept_at a.table new ≡ found → IsHitIf rows (Some stands.kept) found → TableStandsFor name (request ∷ past) new a
    by None there impossible = absurd impossible
    by (Some kept) there came = record {
      kept = kept;
      there = there;
      paused = came.paused ∙ stands.paused ∙ sym (paused-calm name past request a.table keeps);
      table = came.table before stands.table ∙ (λ i. grouped (sym came.spec i) (counted i));
      alike = subst (CountsAlike a.spec) (sym came.spec) stands.alike;
    }
