-- Tables that are looked up by their numbers: the first of a number counts, and one that is changed in place, put in front or let go leaves the others.
use Rattle.std.proofs.Common.{◌≡◌, ℕ, zero, suc, ◌+◌, ◌<◌, ◌==◌, nat_lt, Bool, true, false, not, ◌||◌, if◌then◌else◌, List, [], ◌∷◌, length, filter, get_or, set, Option, None, Some, option_map, is_some, refl, sym, ap, ◌∙◌, arith, eq-eqb, eqb-true, lt-ltb, ltb-true}
use Rattle.std.specs.Prelude.{Result, Ok, Err, OnOk, OnErr}
use Rattle.std.specs.List.{list_any, position, position_or_len}
use Rattle.std.specs.declared.alloc.AllocError.{AllocError}
use Rattle.std.proofs.lemmas.Bool.{false≢true, ltb-false, ne_eqb}
use Rattle.std.proofs.lemmas.List.Quantifiers.{position-Some}
use Rattle.trace_format.specs.Operands.{Emission}
use Rattle.trace_hist.specs.Groups.{grouped}
use Rattle.trace_hist.specs.Hists.{IsReservedAs, IsReservedFor, Seen, StandsFor}
use Rattle.trace_trigger.specs.HistSpecs.{SpecSeen}
use Rattle.trace_trigger.specs.declared.spec.Action.{Action}
use Rattle.trace_trigger.specs.declared.spec.Action.TheVariants.{Clear}
use Rattle.trace_instance.specs.KeptHists.{KeptTable, asked, is_used, kept_at, kept_table, table_numbered}
use Rattle.trace_instance.specs.declared.hists.AttachedHist.{AttachedHist}
use Rattle.trace_instance.specs.declared.tables.Table.{Table}

-- whether a table has a number
abbrev pub is_numbered : ℕ → Table → Bool
is_numbered number t = t.number == number

-- ---- the first of a number

first : (number : ℕ) (tables : List Table) (i : ℕ) (d : Table) → i < length tables → is_numbered number (get_or tables i d) ≡ true
    → ((k : ℕ) → k < i → is_numbered number (get_or tables k d) ≡ false) → table_numbered number tables ≡ Some (get_or tables i d).hist
first number [] i d inside is before = absurd (omega (arith, inside))
first number (t ∷ tables) zero d inside is before = rw is refl
first number (t ∷ tables) (suc i) d inside is before =
    let other : (t.number == number) ≡ false = before 0 (omega arith) in
    rw other (first number tables i d (omega (arith, inside)) is (λ k below. before (suc k) (omega (arith, below))))

pub found-at : (number : ℕ) (tables : List Table) (i : ℕ) (d : Table) → position (is_numbered number) tables ≡ Some i
    → table_numbered number tables ≡ Some (get_or tables i d).hist
found-at number tables i d found =
    let at = position-Some (is_numbered number) tables i d found in first number tables i d at.0 at.1 at.2

or-none : (b rest : Bool) (one found : Option Seen) → (b || rest) ≡ false → (rest ≡ false → found ≡ None)
    → (let o : Option Seen = if b then one else found in o) ≡ None
or-none true rest one found is none = absurd (false≢true (sym is))
or-none false rest one found is none = none is

pub none-at : (number : ℕ) (tables : List Table) → list_any (is_numbered number) tables ≡ false → table_numbered number tables ≡ None
none-at number [] none = refl
none-at number (t ∷ tables) none =
    or-none (t.number == number) (list_any (is_numbered number) tables) (Some t.hist) (table_numbered number tables) none (none-at number tables)

-- a test finds one exactly if some value passes
one-later : (a b c : ℕ) → c ≡ b + 1 → nat_lt (1 + a) c ≡ nat_lt a b
one-later a b c is = by (nat_lt (1 + a) c) (nat_lt a b) refl refl
  where
    by : (one other : Bool) → nat_lt (1 + a) c ≡ one → nat_lt a b ≡ other → one ≡ other
    by true true less also = refl
    by true false less not = absurd (omega (arith, is, ltb-true (1 + a) c less, ltb-false a b not))
    by false true not less = absurd (omega (arith, is, ltb-false (1 + a) c not, ltb-true a b less))
    by false false not also = refl

index-inside : {A : Type 0} (test : A → Bool) (xs : List A) → nat_lt (position_or_len test xs) (length xs) ≡ list_any test xs
index-inside test [] = refl
index-inside {A = A} test (x ∷ xs) = by (test x) (index-inside test xs)
  where
    by : (passes : Bool) → nat_lt (position_or_len test xs) (length xs) ≡ list_any test xs
        → nat_lt (if not passes then 1 + position_or_len test xs else 0) (length (x ∷ xs)) ≡ (passes || list_any test xs)
    by true rest = lt-ltb 0 (length (x ∷ xs)) (omega arith)
    by false rest = one-later (position_or_len test xs) (length xs) (length (x ∷ xs)) (omega arith) ∙ rest

some-position : {A : Type 0} (test : A → Bool) (xs : List A) → is_some (position test xs) ≡ list_any test xs
some-position {A = A} test xs = is-some (nat_lt (position_or_len test xs) (length xs)) ∙ index-inside test xs
  where
    is-some : (found : Bool) → is_some (if found then Some (position_or_len test xs) else None) ≡ found
    is-some true = refl
    is-some false = refl

pub none-found : (number : ℕ) (tables : List Table) → position (is_numbered number) tables ≡ None → table_numbered number tables ≡ None
none-found number tables none = none-at number tables (sym (some-position (is_numbered number) tables) ∙ ap is_some none)

-- ---- one that is changed in place

set-first : (number : ℕ) (tables : List Table) (i : ℕ) (d new : Table) → i < length tables → is_numbered number (get_or tables i d) ≡ true
    → ((k : ℕ) → k < i → is_numbered number (get_or tables k d) ≡ false) → new.number ≡ number → (other : ℕ)
    → table_numbered other (set tables i new) ≡ (if number == other then Some new.hist else table_numbered other tables)
set-first number [] i d new inside is before called other = absurd (omega (arith, inside))
set-first number (t ∷ tables) zero d new inside is before called other = rw called (by (number == other) refl)
  where
    named : t.number ≡ number
    named = eqb-true t.number number is

    by : (b : Bool) → (number == other) ≡ b
        → (if b then Some new.hist else table_numbered other tables)
        ≡ (if b then Some new.hist else (if t.number == other then Some t.hist else table_numbered other tables))
    by true at = refl
    by false at =
        let apart : (t.number == other) ≡ false = ap (λ (n : ℕ). n == other) named ∙ at in
        rw apart refl
set-first number (t ∷ tables) (suc i) d new inside is before called other =
    let rest = set-first number tables i d new (omega (arith, inside)) is (λ k below. before (suc k) (omega (arith, below))) called other in
    rw rest (by (number == other) refl)
  where
    apart : (t.number == number) ≡ false
    apart = before 0 (omega arith)

    by : (b : Bool) → (number == other) ≡ b
        → (if t.number == other then Some t.hist else (if b then Some new.hist else table_numbered other tables))
        ≡ (if b then Some new.hist else (if t.number == other then Some t.hist else table_numbered other tables))
    by true at =
        let same : (t.number == other) ≡ false = ap (λ (n : ℕ). t.number == n) (sym (eqb-true number other at)) ∙ apart in
        rw same refl
    by false at = refl

-- the table of a number was changed in place
pub set-at : (number : ℕ) (tables : List Table) (i : ℕ) (d read new : Table) → position (is_numbered number) tables ≡ Some i
    → read ≡ get_or tables i d → new.number ≡ read.number → (other : ℕ)
    → table_numbered other (set tables i new) ≡ (if number == other then Some new.hist else table_numbered other tables)
set-at number tables i d read new found here called other =
    let at = position-Some (is_numbered number) tables i d found in
    let named : new.number ≡ number = called ∙ ap (λ (t : Table). t.number) here ∙ eqb-true (get_or tables i d).number number at.1 in
    set-first number tables i d new at.0 at.1 at.2 named other

-- which table a number means before
pub read-at : (number : ℕ) (tables : List Table) (i : ℕ) (d read : Table) → position (is_numbered number) tables ≡ Some i
    → read ≡ get_or tables i d → table_numbered number tables ≡ Some read.hist
read-at number tables i d read found here = found-at number tables i d found ∙ ap (λ (t : Table). (let o : Option Seen = Some t.hist in o)) (sym here)

-- the one of the number
pub here-at : (number : ℕ) (tables : List Table) (i : ℕ) (d read new : Table) → position (is_numbered number) tables ≡ Some i
    → read ≡ get_or tables i d → new.number ≡ read.number → table_numbered number (set tables i new) ≡ Some new.hist
here-at number tables i d read new found here called =
    set-at number tables i d read new found here called number
    ∙ ap (λ (b : Bool). (let o : Option Seen = if b then Some new.hist else table_numbered number tables in o)) (eq-eqb number number refl)

-- and the others
pub others-at : (number : ℕ) (tables : List Table) (i : ℕ) (d read new : Table) → position (is_numbered number) tables ≡ Some i
    → read ≡ get_or tables i d → new.number ≡ read.number → (other : ℕ) → (other ≡ number → ⊥)
    → table_numbered other (set tables i new) ≡ table_numbered other tables
others-at number tables i d read new found here called other apart =
    set-at number tables i d read new found here called other
    ∙ ap (λ (b : Bool). (let o : Option Seen = if b then Some new.hist else table_numbered other tables in o))
    (ne_eqb number other (λ same. apart (sym same)))

-- what a text asks of it was done
pub asked-at : (number : ℕ) (tables : List Table) (i : ℕ) (d read new : Table) (action : Action) → position (is_numbered number) tables ≡ Some i
    → read ≡ get_or tables i d → new.number ≡ read.number → kept_table new.hist ≡ asked action (kept_table read.hist) → (other : ℕ)
    → kept_at other (set tables i new)
    ≡ (if number == other then option_map (asked action) (kept_at other tables) else kept_at other tables)
asked-at number tables i d read new action found here called done other =
    ap (option_map kept_table) (set-at number tables i d read new found here called other) ∙ by (number == other) refl
  where
    by : (b : Bool) → (number == other) ≡ b
        → option_map kept_table (if b then Some new.hist else table_numbered other tables)
        ≡ (let o : Option KeptTable = if b then option_map (asked action) (kept_at other tables) else kept_at other tables in o)
    by true at =
        let was : table_numbered other tables ≡ Some read.hist =
        ap (λ (n : ℕ). table_numbered n tables) (sym (eqb-true number other at)) ∙ read-at number tables i d read found here in
        ap (λ (k : KeptTable). (let o : Option KeptTable = Some k in o)) done
        ∙ ap (λ (o : Option Seen). option_map (asked action) (option_map kept_table o)) (sym was)
    by false at = refl

-- what a row needs was reserved, or refused
module _ (by : SpecSeen) (emission : Emission) (old new : Seen) where
  pub kept-reserved : (result : Result (Unit {0}) AllocError) → OnOk result (IsReservedFor by emission old new) → OnErr result (new ≡ old)
      → kept_table new ≡ kept_table old
  kept-reserved (Ok value) came err = ap kept_table came.kept
  kept-reserved (Err error) came err = ap kept_table err

  pub ready-reserved : (result : Result (Unit {0}) AllocError) → OnOk result (IsReservedFor by emission old new) → OnOk result (IsReservedAs new by emission)
  ready-reserved (Ok value) came = came.ready
  ready-reserved (Err error) came = tt

-- nothing that is kept was changed
pub alike-at : (number : ℕ) (tables : List Table) (i : ℕ) (d read : Table) (hist : Seen) → position (is_numbered number) tables ≡ Some i
    → read ≡ get_or tables i d → kept_table hist ≡ kept_table read.hist → (other : ℕ)
    → kept_at other (set tables i (record read { hist = hist })) ≡ kept_at other tables
alike-at number tables i d read hist found here same other =
    ap (option_map kept_table) (set-at number tables i d read (record read { hist = hist }) found here refl other) ∙ by (number == other) refl
  where
    by : (b : Bool) → (number == other) ≡ b
        → option_map kept_table (if b then Some hist else table_numbered other tables) ≡ kept_at other tables
    by true at =
        let was : table_numbered other tables ≡ Some read.hist =
        ap (λ (n : ℕ). table_numbered n tables) (sym (eqb-true number other at)) ∙ read-at number tables i d read found here in
        ap (λ (k : KeptTable). (let o : Option KeptTable = Some k in o)) same ∙ ap (option_map kept_table) (sym was)
    by false at = refl

-- there is none of the number, so none is asked
pub unasked-at : (number : ℕ) (tables : List Table) (action : Action) → position (is_numbered number) tables ≡ None → (other : ℕ)
    → kept_at other tables ≡ (if number == other then option_map (asked action) (kept_at other tables) else kept_at other tables)
unasked-at number tables action none other = by (number == other) refl
  where
    by : (b : Bool) → (number == other) ≡ b
        → kept_at other tables ≡ (let o : Option KeptTable = if b then option_map (asked action) (kept_at other tables) else kept_at other tables in o)
    by true at =
        let was : kept_at other tables ≡ None =
        ap (λ (n : ℕ). kept_at n tables) (sym (eqb-true number other at)) ∙ ap (option_map kept_table) (none-found number tables none) in
        was ∙ ap (option_map (asked action)) (sym was)
    by false at = refl

-- ---- those that are let go

pub still-numbered : (number : ℕ) (hists : List (List AttachedHist)) (tables : List Table) → is_used number hists ≡ true
    → table_numbered number (filter (λ (t : Table). is_used t.number hists) tables) ≡ table_numbered number tables
still-numbered number hists [] used = refl
still-numbered number hists (t ∷ tables) used = by (is_used t.number hists) refl (still-numbered number hists tables used)
  where
    rest : List Table
    rest = filter (λ (u : Table). is_used u.number hists) tables

    by : (kept : Bool) → is_used t.number hists ≡ kept → table_numbered number rest ≡ table_numbered number tables
        → table_numbered number (if kept then t ∷ rest else rest) ≡ (if t.number == number then Some t.hist else table_numbered number tables)
    by true is same = ap (λ (o : Option Seen). (let p : Option Seen = if t.number == number then Some t.hist else o in p)) same
    by false is same =
        let other : (t.number == number) ≡ false =
        ne_eqb t.number number (λ named. false≢true (sym is ∙ ap (λ (n : ℕ). is_used n hists) named ∙ used)) in
        rw other same

-- what is kept of it
pub kept-still : (number : ℕ) (hists : List (List AttachedHist)) (tables : List Table) → is_used number hists ≡ true
    → kept_at number (filter (λ (t : Table). is_used t.number hists) tables) ≡ kept_at number tables
kept-still number hists tables used = ap (option_map kept_table) (still-numbered number hists tables used)

-- there is none of a number in whose table no trigger counts
none-numbered : (number : ℕ) (hists : List (List AttachedHist)) (tables : List Table) → is_used number hists ≡ false
    → table_numbered number (filter (λ (t : Table). is_used t.number hists) tables) ≡ None
none-numbered number hists [] unused = refl
none-numbered number hists (t ∷ tables) unused = by (is_used t.number hists) refl (none-numbered number hists tables unused)
  where
    rest : List Table
    rest = filter (λ (u : Table). is_used u.number hists) tables

    by : (kept : Bool) → is_used t.number hists ≡ kept → table_numbered number rest ≡ None → table_numbered number (if kept then t ∷ rest else rest) ≡ None
    by true is none =
        let other : (t.number == number) ≡ false =
        ne_eqb t.number number (λ named. false≢true (sym unused ∙ ap (λ (n : ℕ). is_used n hists) (sym named) ∙ is)) in
        rw other none
    by false is none = none

pub none-kept : (number : ℕ) (hists : List (List AttachedHist)) (tables : List Table) → is_used number hists ≡ false
    → kept_at number (filter (λ (t : Table). is_used t.number hists) tables) ≡ None
none-kept number hists tables unused = ap (option_map kept_table) (none-numbered number hists tables unused)

-- ---- what a text asks of one

-- it was emptied
pub table_emptied : (action : Action) (old new : Seen) → action ≡ Clear → new.spec ≡ old.spec → new.paused ≡ old.paused → StandsFor new []
    → kept_table new ≡ asked action (kept_table old)
unfolding StandsFor
table_emptied action old new is spec paused stands =
    let empty : new.table ≡ grouped old.spec [] = stands ∙ ap (λ (s : SpecSeen). grouped s []) spec in
    rw is (λ i. record { spec = spec i; paused = paused i; table = empty i })
