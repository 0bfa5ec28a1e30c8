-- One request later: what is asked of a table, whether it is paused, and the rows that it counts.
use Rattle.std.proofs.Common.{◌≡◌, inl, inr, ℕ, ◌≤◌, ◌==◌, Bool, true, false, ◌&&◌, ◌||◌, if◌then◌else◌, List, [], ◌∷◌, ◌++◌, length, map, bytes_eq, Option, None, Some, Result, Ok, Err, refl, sym, ap, ◌∙◌, arith, eq-eqb, eqb-true}
use Rattle.std.specs.List.{filter, flat_map, list_any}
use Rattle.std.proofs.lemmas.Slice.Eq.{bytes_eq-Decides}
use Rattle.hist_entries.specs.Hits.{Hit}
use Rattle.trace_trigger.specs.HistSpecs.{SpecSeen}
use Rattle.trace_trigger.specs.TriggerTexts.{said_of}
use Rattle.trace_trigger.specs.declared.fault.TriggerFault.{TriggerFault}
use Rattle.trace_trigger.specs.declared.spec.Action.{Action}
use Rattle.trace_trigger.specs.declared.spec.Action.TheVariants.{Attach, Pause, Continue, Clear}
use Rattle.trace_trigger.specs.declared.trigger.TriggerText.{TriggerText}
use Rattle.trace_trigger.specs.declared.trigger.TriggerText.TheVariants.{Nothing, AttachSnapshot, RemoveSnapshot, Hist, RemoveHist}
use Rattle.trace_command.specs.Requests.{Request, Emission as Emits}
use Rattle.tracer_specification.specs.Emissions.{Emitted, emitted}
use Rattle.tracer_specification.specs.HistTriggers.{HistTrigger, Written, asked_by, asked_in, asked_of, counted_by, counted_hit, empties, hist_triggers, hits_of, is_of, is_pause, is_paused, met_in, paused_after, says_same, speaks_of, those_of, written_for, written_to}
use Rattle.tracer_specification.specs.TableLaws.{meets, rows_met}
use Rattle.tracer_specification.specs.Triggers.{met_by, passes}
use Rattle.tracer_specification.proofs.EventHists.{tables-made_before}
use Rattle.tracer_specification.proofs.Members.{IsIn, each-in, filter-in, in-filter}
use Rattle.tracer_specification.proofs.OwnFiles.{bytes-differ}
use Rattle.tracer_specification.proofs.Tables.{IsBefore}

-- ---- what is asked of a table

-- through one of its triggers
said-through : (spec : SpecSeen) (t : HistTrigger) (hists : List HistTrigger) → IsIn t hists → says_same spec t ≡ true
    → list_any (speaks_of spec t.table) hists ≡ true
said-through spec t [] there says = absurd there
said-through spec t (u ∷ hists) (inl same) says =
    let tables : (t.table == t.table) ≡ true = eq-eqb t.table t.table refl in
    let here : speaks_of spec t.table u ≡ true = ap (speaks_of spec t.table) same ∙ (λ i. says i && tables i) in
    ap (λ (b : Bool). b || list_any (speaks_of spec t.table) hists) here
said-through spec t (u ∷ hists) (inr there) says = by (speaks_of spec t.table u) (said-through spec t hists there says)
  where
    by : (here : Bool) → list_any (speaks_of spec t.table) hists ≡ true → (here || list_any (speaks_of spec t.table) hists) ≡ true
    by true rest = refl
    by false rest = rest

pub asked-through : (instance : Option (List ℕ)) (past : List Request) (request : Request) (w : Written) (spec : SpecSeen) (t : HistTrigger)
    → written_to instance past request ≡ Some w → said_of w.event w.text ≡ Ok (Hist spec)
    → IsIn t (hist_triggers instance (request ∷ past)) → is_of w.event t ≡ true → says_same spec t ≡ true
    → asked_by instance t.table past request ≡ Some spec.action
asked-through instance past request w spec t written said there own says =
    let hists = hist_triggers instance (request ∷ past) in
    let through : list_any (speaks_of spec t.table) (those_of w.event hists) ≡ true =
    said-through spec t (those_of w.event hists) (filter-in t (is_of w.event) hists there own) says in
    ap (asked_in t.table hists) written
    ∙ ap (asked_of t.table (those_of w.event hists)) said
    ∙ ap (λ (b : Bool). if b then Some spec.action else None) through

-- nothing, where none of its triggers is spoken of
none-said : (spec : SpecSeen) (table : ℕ) (hists : List HistTrigger)
    → ((t : HistTrigger) → IsIn t hists → says_same spec t ≡ true → (t.table == table) ≡ false)
    → list_any (speaks_of spec table) hists ≡ false
none-said spec table [] apart = refl
none-said spec table (t ∷ hists) apart =
    by (says_same spec t) refl (none-said spec table hists (λ u there. apart u (inr there)))
  where
    by : (says : Bool) → says_same spec t ≡ says → list_any (speaks_of spec table) hists ≡ false
        → (says && (t.table == table) || list_any (speaks_of spec table) hists) ≡ false
    by true is rest = λ i. apart t (inl refl) is i || rest i
    by false is rest = rest

none-asked : (table : ℕ) (hists : List HistTrigger) (said : Result TriggerText TriggerFault)
    → ((spec : SpecSeen) (t : HistTrigger) → said ≡ Ok (Hist spec) → IsIn t hists → says_same spec t ≡ true → (t.table == table) ≡ false)
    → asked_of table hists said ≡ None
none-asked table hists (Ok (Hist spec)) apart =
    ap (λ (b : Bool). if b then Some spec.action else None) (none-said spec table hists (λ t. apart spec t refl))
none-asked table hists (Ok (RemoveHist spec)) apart = refl
none-asked table hists (Ok (AttachSnapshot trigger)) apart = refl
none-asked table hists (Ok RemoveSnapshot) apart = refl
none-asked table hists (Ok Nothing) apart = refl
none-asked table hists (Err fault) apart = refl

pub asked-none : (instance : Option (List ℕ)) (table : ℕ) (past : List Request) (request : Request)
    → ((w : Written) (spec : SpecSeen) (t : HistTrigger) → written_to instance past request ≡ Some w → said_of w.event w.text ≡ Ok (Hist spec)
    → IsIn t (hist_triggers instance (request ∷ past)) → is_of w.event t ≡ true → says_same spec t ≡ true → (t.table == table) ≡ false)
    → asked_by instance table past request ≡ None
asked-none instance table past request apart = by (written_to instance past request) refl
  where
    hists : List HistTrigger
    hists = hist_triggers instance (request ∷ past)

    by : (written : Option Written) → written_to instance past request ≡ written → asked_in table hists written ≡ None
    by None is = refl
    by (Some w) is = none-asked table (those_of w.event hists) (said_of w.event w.text)
        (λ spec t said there says. let inside = in-filter t (is_of w.event) hists there in apart w spec t is said inside.0 inside.1 says)

-- where nothing is written for an event that has one of its triggers
pub asked-unwritten : (instance : Option (List ℕ)) (table : ℕ) (past : List Request) (request : Request)
    → ((t : HistTrigger) → IsIn t (hist_triggers instance (request ∷ past)) → t.table ≡ table → written_for t.event (written_to instance past request)
    ≡ None)
    → asked_by instance table past request ≡ None
asked-unwritten instance table past request unwritten = asked-none instance table past request apart
  where
    apart : (w : Written) (spec : SpecSeen) (t : HistTrigger) → written_to instance past request ≡ Some w → said_of w.event w.text ≡ Ok (Hist spec)
        → IsIn t (hist_triggers instance (request ∷ past)) → is_of w.event t ≡ true → says_same spec t ≡ true → (t.table == table) ≡ false
    apart w spec t written said there own says = by (t.table == table) refl
      where
        by : (same : Bool) → (t.table == table) ≡ same → same ≡ false
        by true is =
            let for_it : written_for t.event (written_to instance past request) ≡ Some w =
            ap (written_for t.event) written ∙ ap (λ (b : Bool). if b then Some w else None) own in
            let none : None ≡ Some w = sym (unwritten t there (eqb-true t.table table is)) ∙ for_it in
            absurd (cc)
        by false is = refl

-- an emission writes to no trigger file
pub emitted-unwritten : (instance : Option (List ℕ)) (past : List Request) (request : Request) (e : Emitted) → emitted past request ≡ Some e
    → written_to instance past request ≡ None
emitted-unwritten instance past (Emits name cpu pid pairs) e is = refl
emitted-unwritten instance past _ e is = absurd (cc)

-- so it asks nothing of a table
pub emitted-unasked : (instance : Option (List ℕ)) (table : ℕ) (past : List Request) (request : Request) (e : Emitted) → emitted past request ≡ Some e
    → asked_by instance table past request ≡ None
emitted-unasked instance table past request e is =
    ap (asked_in table (hist_triggers instance (request ∷ past))) (emitted-unwritten instance past request e is)

-- ---- what an emission brings to a table

pub met-rows : (table : ℕ) (e : Option Emitted) (hists : List HistTrigger) → flat_map (met_in table e) hists ≡ rows_met (λ t. t.table == table) hists e
met-rows table None [] = refl
met-rows table None (t ∷ hists) = by (t.table == table) ∙ met-rows table None hists
  where
    by : (own : Bool) → (if own then map (counted_hit t) (met_by t.event t.spec.filter None) else []) ++ flat_map (met_in table None) hists
        ≡ flat_map (met_in table None) hists
    by true = refl
    by false = refl
met-rows table (Some e) [] = refl
met-rows table (Some e) (t ∷ hists) = by (t.table == table) (meets t e) ∙ rest (t.table == table && meets t e) (met-rows table (Some e) hists)
  where
    older : List Hit
    older = flat_map (met_in table (Some e)) hists

    by : (own meets : Bool) → (if own then map (counted_hit t) (if meets then e ∷ [] else []) else []) ++ older
        ≡ (if own && meets then counted_hit t e ∷ older else older)
    by true true = refl
    by true false = refl
    by false meets = refl

    rest : (counts : Bool) → older ≡ rows_met (λ u. u.table == table) hists (Some e)
        → (if counts then counted_hit t e ∷ older else older)
        ≡ map (λ u. counted_hit u e) (if counts then t ∷ filter (λ u. (u.table == table) && meets u e) hists else filter
        (λ u. (u.table == table) && meets u e) hists)
    rest true same = λ i. counted_hit t e ∷ same i
    rest false same = same

pub counted-rows : (table : ℕ) (hists : List HistTrigger) (e : Option Emitted) → counted_by table false hists e
    ≡ rows_met (λ t. t.table == table) hists e
counted-rows table hists e = met-rows table e hists

pub nothing-counted : (table : ℕ) (paused : Bool) (hists : List HistTrigger) → counted_by table paused hists None ≡ []
nothing-counted table true hists = refl
nothing-counted table false hists = met-rows table None hists

-- tests that agree on each of some triggers give the same rows
pub rows-agree : (one other : HistTrigger → Bool) (e : Option Emitted) (hists : List HistTrigger) → ((t : HistTrigger) → IsIn t hists → one t ≡ other t)
    → rows_met one hists e ≡ rows_met other hists e
rows-agree one other None hists agree = refl
rows-agree one other (Some e) [] agree = refl
rows-agree one other (Some e) (t ∷ hists) agree =
    ap (λ (b : Bool). map (λ u. counted_hit u e) (if b && meets t e then t ∷ filter (λ u. one u && meets u e) hists else filter
    (λ u. one u && meets u e) hists))
    (agree t (inl refl))
    ∙ by (other t && meets t e) (rows-agree one other (Some e) hists (λ u there. agree u (inr there)))
  where
    by : (keeps : Bool) → rows_met one hists (Some e) ≡ rows_met other hists (Some e)
        → map (λ u. counted_hit u e) (if keeps then t ∷ filter (λ u. one u && meets u e) hists else filter (λ u. one u && meets u e) hists)
        ≡ map (λ u. counted_hit u e) (if keeps then t ∷ filter (λ u. other u && meets u e) hists else filter (λ u. other u && meets u e) hists)
    by true rest = λ i. counted_hit t e ∷ rest i
    by false rest = rest

-- none, where no trigger that meets the emission passes the test
pub rows-none : (test : HistTrigger → Bool) (e : Emitted) (hists : List HistTrigger)
    → ((t : HistTrigger) → IsIn t hists → (test t && meets t e) ≡ false)
    → rows_met test hists (Some e) ≡ []
rows-none test e [] none = refl
rows-none test e (t ∷ hists) none =
    ap (λ (b : Bool). map (λ u. counted_hit u e) (if b then t ∷ filter (λ u. test u && meets u e) hists else filter
    (λ u. test u && meets u e) hists)) (none t (inl refl))
    ∙ rows-none test e hists (λ u there. none u (inr there))

-- as many at most as its event has hist triggers
pub rows-few : (table : ℕ) (e : Emitted) (hists : List HistTrigger)
    → length (flat_map (met_in table (Some e)) hists) ≤ length (those_of e.k.event hists)
rows-few table e hists = ap-length (met-rows table (Some e) hists) (few hists)
  where
    ap-length : flat_map (met_in table (Some e)) hists ≡ rows_met (λ t. t.table == table) hists (Some e)
        → length (rows_met (λ t. t.table == table) hists (Some e)) ≤ length (those_of e.k.event hists)
        → length (flat_map (met_in table (Some e)) hists) ≤ length (those_of e.k.event hists)
    ap-length same few = let many : length (flat_map (met_in table (Some e)) hists) ≡ length (rows_met (λ t. t.table == table) hists (Some e)) =
        ap (λ (l : List Hit). length l) same in omega (arith, many, few)

    few : (l : List HistTrigger) → length (rows_met (λ t. t.table == table) l (Some e)) ≤ length (those_of e.k.event l)
    few [] = omega arith
    few (t ∷ l) = by (t.table == table) (bytes_eq t.event.name e.k.event.name) (passes t.spec.filter e) refl (few l)
      where
        others : List HistTrigger
        others = filter (λ u. (u.table == table) && meets u e) l

        by : (own named passes : Bool) → bytes_eq t.event.name e.k.event.name ≡ named
            → length (rows_met (λ u. u.table == table) l (Some e)) ≤ length (those_of e.k.event l)
            → length (map (λ u. counted_hit u e) (if own && (named && passes) then t ∷ others else others)) ≤ length (those_of e.k.event (t ∷ l))
        by own named passes is older = by_named own named passes (own-is named is) older
          where
            own-is : (named : Bool) → bytes_eq t.event.name e.k.event.name ≡ named → is_of e.k.event t ≡ named
            own-is true is = (bytes_eq-Decides e.k.event.name t.event.name).1 (sym ((bytes_eq-Decides t.event.name e.k.event.name).0 is))
            own-is false is = bytes-differ t.event.name e.k.event.name is

            by_named : (own named passes : Bool) → is_of e.k.event t ≡ named
                → length (rows_met (λ u. u.table == table) l (Some e)) ≤ length (those_of e.k.event l)
                → length (map (λ u. counted_hit u e) (if own && (named && passes) then t ∷ others else others)) ≤ length (those_of e.k.event (t ∷ l))
            by_named true true true is older = rw is (omega (arith, older))
            by_named true true false is older = rw is (omega (arith, older))
            by_named true false passes is older = rw is older
            by_named false true passes is older = rw is (omega (arith, older))
            by_named false false passes is older = rw is older

-- ---- tables that are made

-- no trigger has a table that is not made yet
none-yet : (instance : Option (List ℕ)) (table : ℕ) (past : List Request) → length past ≤ table → (t : HistTrigger)
    → IsIn t (hist_triggers instance past)
    → (t.table == table) ≡ false
none-yet instance table past late t there = by (t.table == table) refl
  where
    before : IsBefore (length past) t
    before = each-in (IsBefore (length past)) t (hist_triggers instance past) (tables-made_before instance past) there

    by : (same : Bool) → (t.table == table) ≡ same → same ≡ false
    by true is = let table_at = before.table in absurd (omega (arith, table_at, late, eqb-true t.table table is))
    by false is = refl

pub unmade-rows : (instance : Option (List ℕ)) (table : ℕ) (past : List Request) (e : Option Emitted) → length past ≤ table
    → rows_met (λ t. t.table == table) (hist_triggers instance past) e ≡ []
unmade-rows instance table past None late = refl
unmade-rows instance table past (Some e) late =
    rows-none (λ t. t.table == table) e (hist_triggers instance past)
    (λ t there. ap (λ (b : Bool). b && meets t e) (none-yet instance table past late t there))

unmade-counted : (instance : Option (List ℕ)) (table : ℕ) (past : List Request) (paused : Bool) (e : Option Emitted) → length past ≤ table
    → counted_by table paused (hist_triggers instance past) e ≡ []
unmade-counted instance table past true e late = refl
unmade-counted instance table past false e late = met-rows table e (hist_triggers instance past) ∙ unmade-rows instance table past e late

-- before that a table is not paused and counts nothing
pub unmade : (instance : Option (List ℕ)) (table : ℕ) (past : List Request) → length past ≤ table
    → (is_paused instance table past ≡ false) × (hits_of instance table past ≡ [])
unmade instance table [] late = (refl, refl)
unmade instance table (request ∷ past) late =
    let older = unmade instance table past (omega (arith, late)) in
    let asked : asked_by instance table past request ≡ None =
    asked-none instance table past request (λ w spec t written said there own says. none-yet instance table (request ∷ past) late t there) in
    let counted : List Hit = counted_by table (is_paused instance table past) (hist_triggers instance past) (emitted past request) in
    let none : counted ≡ [] = unmade-counted instance table past (is_paused instance table past) (emitted past request) (omega (arith, late)) in (
      ap (λ (a : Option Action). paused_after a (is_paused instance table past)) asked ∙ older.0,
      ap (λ (a : Option Action). if empties a then [] else hits_of instance table past ++ counted) asked ∙ (λ i. older.1 i ++ none i),
    )

paused-new : (asked : Action) → paused_after (Some asked) false ≡ is_pause asked
paused-new Attach = refl
paused-new Pause = refl
paused-new Continue = refl
paused-new Clear = refl

emptied-or : (asked : Option Action) (rows : List Hit) → rows ≡ [] → (if empties asked then [] else rows) ≡ []
emptied-or asked rows none = by (empties asked)
  where
    by : (emptied : Bool) → (if emptied then [] else rows) ≡ []
    by true = refl
    by false = none

-- a table begins with no row, and paused if that is asked by the text that makes it
pub table-new : (instance : Option (List ℕ)) (past : List Request) (request : Request) (table : ℕ) (asked : Action) → table ≡ length past
    → asked_by instance table past request ≡ Some asked
    → (is_paused instance table (request ∷ past) ≡ is_pause asked) × (hits_of instance table (request ∷ past) ≡ [])
table-new instance past request table asked is told =
    let late : length past ≤ table = omega (arith, is) in
    let old = unmade instance table past late in
    let counted : List Hit = counted_by table (is_paused instance table past) (hist_triggers instance past) (emitted past request) in
    let none : counted ≡ [] = unmade-counted instance table past (is_paused instance table past) (emitted past request) late in (
      (λ i. paused_after (told i) (old.0 i)) ∙ paused-new asked,
      emptied-or (asked_by instance table past request) (hits_of instance table past ++ counted) (λ i. old.1 i ++ none i),
    )
