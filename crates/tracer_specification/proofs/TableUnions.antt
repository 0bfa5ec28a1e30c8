-- The rows of a table from the whole history: those of the emissions that any trigger of its name met while it counted.
use Rattle.std.proofs.Common.{◌≡◌, ◌⊎◌, inl, inr, ℕ, ◌<◌, ◌≤◌, ◌==◌, nat_lt, Bool, true, false, not, ◌&&◌, ◌||◌, if◌then◌else◌, List, [], ◌∷◌, ◌++◌, length, Option, None, Some, refl, sym, ap, ◌∙◌, subst, arith, append-nil, append_assoc, ltb-true, eq-eqb}
use Rattle.std.specs.List.{filter, flat_map}
use Rattle.std.proofs.lemmas.Bool.{false≢true, ltb-false}
use Rattle.std.proofs.lemmas.List.Elements.{filter-append}
use Rattle.std.proofs.lemmas.Slice.Eq.{bytes_eq-Decides}
use Rattle.trace_hist.specs.Groups.{grouped}
use Rattle.hist_entries.specs.Hits.{Hit}
use Rattle.trace_command.specs.Requests.{Request}
use Rattle.tracer_specification.specs.Emissions.{Emitted, emitted}
use Rattle.tracer_specification.specs.HistTriggers.{HistTrigger, counted_by, empties, hist_triggers, hists_after, hits_of, is_name_of, is_paused, left_by, named_by, table_of, table_or, written_to}
use Rattle.tracer_specification.specs.Laws.{some_later}
use Rattle.tracer_specification.specs.Settings.{makes}
use Rattle.tracer_specification.specs.TableLaws.{Moment, NamedTablesAreUnions, clears, counts_at, counts_with, moments, rows_met, rows_of_name}
use Rattle.tracer_specification.proofs.AttachedHists.{IsMade, after-in}
use Rattle.tracer_specification.proofs.EventHists.{tables-apart}
use Rattle.tracer_specification.proofs.Members.{IsIn, in-all, left-in}
use Rattle.tracer_specification.proofs.TableSteps.{counted-rows, emitted-unasked, rows-agree, unmade-rows}
use Rattle.tracer_specification.proofs.Tables.{found-in, name-back, name-same, number-self, one-or_apart}

-- ---- a table has had a trigger of its name since it was made

-- the trigger that it had then: one of the same name, or where it has none the same one
record IsHeld (instance : Option (List ℕ)) (t : HistTrigger) (past : List Request) : Type 0 where
  v : HistTrigger
  there : IsIn v (hist_triggers instance past)
  table : v.table ≡ t.table
  name : v.spec.name ≡ t.spec.name
  itself : t.spec.name ≡ None → v ≡ t

-- one request before
held-before : (instance : Option (List ℕ)) (t : HistTrigger) (past : List Request) (request : Request)
    → IsIn t (hist_triggers instance (request ∷ past))
    → t.table < length past → IsHeld instance t past
held-before instance t past request there older = by (makes instance request) there
  where
    hists : List HistTrigger
    hists = hist_triggers instance past

    joined : IsMade (length past) (written_to instance past request) hists t → IsHeld instance t past
    joined made = by_found (named_by made.new.spec left) refl
      where
        left : List HistTrigger
        left = left_by made.w.event made.w.append hists

        tables : table_or (length past) (named_by made.new.spec left) ≡ t.table
        tables = ap (λ (u : HistTrigger). u.table) made.new.is

        says : made.new.spec.name ≡ t.spec.name
        says = ap (λ (u : HistTrigger). u.spec.name) made.new.is

        by_found : (found : Option HistTrigger) → named_by made.new.spec left ≡ found → IsHeld instance t past
        by_found None at =
            let new : length past ≡ t.table = ap (table_or (length past)) (sym at) ∙ tables in
            absurd (omega (arith, older, new))
        by_found (Some v) at =
            let found = found-in made.new.spec left v at in
            let named : is_name_of t.spec.name v.spec.name ≡ true = ap (λ (n : Option (List ℕ)). is_name_of n v.spec.name) (sym says) ∙ found.names in
            record {
              v = v;
              there = (left-in v made.w.event made.w.append hists found.there).0;
              table = ap (table_or (length past)) (sym at) ∙ tables;
              name = sym (name-same t.spec.name v.spec.name named);
              itself = λ none. absurd (false≢true (ap (λ (n : Option (List ℕ)). is_name_of n v.spec.name) (sym none) ∙ named));
            }

    by : (new : Bool) → IsIn t (if new then [] else hists_after (length past) (written_to instance past request) hists) → IsHeld instance t past
    by true none = absurd none
    by false there = elim (after-in (length past) (written_to instance past request) hists t there) [
      | inl (before, stays) ↦ record { v = t; there = before; table = refl; name = refl; itself = λ none. refl }
      | inr made ↦ joined made
    ]

length-later : (later past : List Request) → length past ≤ length (later ++ past)
length-later [] past = omega arith
length-later (request ∷ later) past = let rest = length-later later past in omega (arith, rest)

held : (instance : Option (List ℕ)) (t : HistTrigger) (later past : List Request) → IsIn t (hist_triggers instance (later ++ past))
    → t.table < length past
    → IsHeld instance t past
held instance t [] past there older = record { v = t; there = there; table = refl; name = refl; itself = λ none. refl }
held instance t (request ∷ later) past there older =
    let many = length-later later past in
    let before = held-before instance t (later ++ past) request there (omega (arith, older, many)) in
    let was = held instance before.v later past before.there (subst (λ (n : ℕ). n < length past) (sym before.table) older) in
    record {
      v = was.v;
      there = was.there;
      table = was.table ∙ before.table;
      name = was.name ∙ before.name;
      itself = λ none. was.itself (before.name ∙ none) ∙ before.itself none;
    }

-- so the triggers of its name were those of the table
with-name : (name : Option (List ℕ)) (number : ℕ) (u v : HistTrigger) → v.spec.name ≡ name → (name ≡ None → v.number ≡ number)
    → (u ≡ v) ⊎ ((u.table == v.table) ≡ is_name_of u.spec.name v.spec.name) × ((u.number == v.number) ≡ false)
    → (u.table == v.table) ≡ counts_with name number u
with-name None number u v named itself (inl same) =
    ap (λ (w : HistTrigger). w.table == v.table) same ∙ number-self v.table
    ∙ sym (ap (λ (w : HistTrigger). w.number == number) same ∙ eq-eqb v.number number (itself refl))
with-name None number u v named itself (inr (tables, numbers)) =
    tables ∙ name-back u.spec.name v.spec.name ∙ ap (λ (n : Option (List ℕ)). is_name_of n u.spec.name) named
    ∙ sym (ap (λ (n : ℕ). u.number == n) (sym (itself refl)) ∙ numbers)
with-name (Some name) number u v named itself (inl same) =
    ap (λ (w : HistTrigger). w.table == v.table) same ∙ number-self v.table
    ∙ sym (ap (is_name_of (Some name)) (ap (λ (w : HistTrigger). w.spec.name) same ∙ named) ∙ own)
  where
    own : is_name_of (Some name) (Some name) ≡ true
    own = (bytes_eq-Decides name name).1 refl
with-name (Some name) number u v named itself (inr (tables, numbers)) =
    tables ∙ name-back u.spec.name v.spec.name ∙ ap (λ (n : Option (List ℕ)). is_name_of n u.spec.name) named

rows-then : (instance : Option (List ℕ)) (t : HistTrigger) (later past : List Request) (e : Option Emitted)
    → IsIn t (hist_triggers instance (later ++ past)) → t.table < length past
    → rows_met (λ u. u.table == t.table) (hist_triggers instance past) e ≡ rows_met (counts_with t.spec.name t.number) (hist_triggers instance past) e
rows-then instance t later past e there older = rows-agree (λ u. u.table == t.table) (counts_with t.spec.name t.number) e hists agree
  where
    hists : List HistTrigger
    hists = hist_triggers instance past

    was : IsHeld instance t past
    was = held instance t later past there older

    agree : (u : HistTrigger) → IsIn u hists → (u.table == t.table) ≡ counts_with t.spec.name t.number u
    agree u inside =
        ap (λ (n : ℕ). u.table == n) (sym was.table)
        ∙ with-name t.spec.name t.number u was.v was.name (λ none. ap (λ (w : HistTrigger). w.number) (was.itself none))
        (one-or_apart u was.v hists (tables-apart instance past) inside was.there)

-- ---- the moments of a history

flat-append : {A B : Type 0} (f : A → List B) (xs ys : List A) → flat_map f (xs ++ ys) ≡ flat_map f xs ++ flat_map f ys
flat-append f [] ys = refl
flat-append f (x ∷ xs) ys = ap (λ l. f x ++ l) (flat-append f xs ys) ∙ sym (append_assoc (f x) (flat_map f xs) (flat_map f ys))

or-assoc : (a b c : Bool) → (a || (b || c)) ≡ ((a || b) || c)
or-assoc true b c = refl
or-assoc false b c = refl

or-none : (a : Bool) → (a || false) ≡ a
or-none true = refl
or-none false = refl

later-and : (test : List Request → Request → Bool) (later past : List Request) (request : Request)
    → some_later test (later ++ request ∷ []) past ≡ (some_later test later (request ∷ past) || test past request)
later-and test [] past request = or-none (test past request)
later-and test (next ∷ later) past request =
    (λ i. test (append_assoc later (request ∷ []) past i) next || later-and test later past request i)
    ∙ or-assoc (test (later ++ request ∷ past) next) (some_later test later (request ∷ past)) (test past request)

-- what empties a table is no emission
cleared-none : (instance : Option (List ℕ)) (table : ℕ) (past : List Request) (request : Request) → clears instance table past request ≡ true
    → emitted past request ≡ None
cleared-none instance table past request cleared = by (emitted past request) refl
  where
    by : (e : Option Emitted) → emitted past request ≡ e → e ≡ None
    by None is = refl
    by (Some e) is = absurd (false≢true (ap empties (sym (emitted-unasked instance table past request e is)) ∙ cleared))

-- ---- the rows of a table

union : Option (List ℕ) → HistTrigger → List Request → List Request → List Hit
union instance t later past =
    flat_map (λ m. rows_met (counts_with t.spec.name t.number) (hist_triggers instance m.before) (emitted m.before m.request))
    (filter (counts_at instance t.table) (moments later past))

-- the rows that a request brings, if it counts for good
abbrev new_rows : Option (List ℕ) → HistTrigger → List Request → Request → List Hit
new_rows instance t past request = rows_met (counts_with t.spec.name t.number) (hist_triggers instance past) (emitted past request)

-- one request more
join-rows : (made paused gone cleared : Bool) (older rows counted : List Hit)
    → (cleared ≡ true → rows ≡ []) → (paused ≡ true → counted ≡ []) → (made ≡ false → counted ≡ []) → (made ≡ true → paused ≡ false → rows ≡ counted)
    → (if gone || cleared then [] else older) ++ (if made && (not paused && not gone) then rows else [])
    ≡ (if gone then [] else (if cleared then [] else older ++ counted))
join-rows true true true cleared older rows counted none still unmade same = refl
join-rows true false true cleared older rows counted none still unmade same = refl
join-rows false paused true cleared older rows counted none still unmade same = refl
join-rows true true false true older rows counted none still unmade same = refl
join-rows true false false true older rows counted none still unmade same = none refl
join-rows false paused false true older rows counted none still unmade same = refl
join-rows true true false false older rows counted none still unmade same = ap (λ (l : List Hit). older ++ l) (sym (still refl))
join-rows true false false false older rows counted none still unmade same = ap (λ (l : List Hit). older ++ l) (same refl refl)
join-rows false paused false false older rows counted none still unmade same = ap (λ (l : List Hit). older ++ l) (sym (unmade refl))

union-next : (instance : Option (List ℕ)) (t : HistTrigger) (later past : List Request) (request : Request)
    → IsIn t (hist_triggers instance ((later ++ request ∷ []) ++ past))
    → union instance t (later ++ request ∷ []) past
    ≡ (if some_later (clears instance t.table) (later ++ request ∷ []) past then [] else hits_of instance t.table past)
    → union instance t later (request ∷ past)
    ≡ (if some_later (clears instance t.table) later (request ∷ past) then [] else hits_of instance t.table (request ∷ past))
unfolding union
union-next instance t later past request there before =
    ap (flat_map rows_at) (filter-append (counts_at instance t.table) (moments (later ++ request ∷ []) past) (now ∷ []))
    ∙ flat-append rows_at (filter (counts_at instance t.table) (moments (later ++ request ∷ []) past)) (filter (counts_at instance t.table) (now ∷ []))
    ∙ (λ i. older i ++ newest (counts_at instance t.table now) i)
    ∙ join-rows (nat_lt t.table (length past)) (is_paused instance t.table past) gone (clears instance t.table past request)
    (hits_of instance t.table past)
    (new_rows instance t past request) counted none still unmade same
  where
    now : Moment
    now = record { later = later; request = request; before = past }

    rows_at : Moment → List Hit
    rows_at = λ m. rows_met (counts_with t.spec.name t.number) (hist_triggers instance m.before) (emitted m.before m.request)

    gone : Bool
    gone = some_later (clears instance t.table) later (request ∷ past)

    counted : List Hit
    counted = counted_by t.table (is_paused instance t.table past) (hist_triggers instance past) (emitted past request)

    older : union instance t (later ++ request ∷ []) past ≡ (if gone || clears instance t.table past request then [] else hits_of instance t.table past)
    older =
        before
        ∙ ap (λ (b : Bool). if b then [] else hits_of instance t.table past) (later-and (clears instance t.table) later past request)

    newest : (counts : Bool) → flat_map rows_at (if counts then now ∷ [] else []) ≡ (if counts then new_rows instance t past request else [])
    newest true = append-nil (new_rows instance t past request)
    newest false = refl

    none : clears instance t.table past request ≡ true → new_rows instance t past request ≡ []
    none cleared =
        ap (rows_met (counts_with t.spec.name t.number) (hist_triggers instance past)) (cleared-none instance t.table past request cleared)

    still : is_paused instance t.table past ≡ true → counted ≡ []
    still is = ap (λ (b : Bool). counted_by t.table b (hist_triggers instance past) (emitted past request)) is

    unmade : nat_lt t.table (length past) ≡ false → counted ≡ []
    unmade is = by (is_paused instance t.table past)
      where
        by : (paused : Bool) → counted_by t.table paused (hist_triggers instance past) (emitted past request) ≡ []
        by true = refl
        by false =
            counted-rows t.table (hist_triggers instance past) (emitted past request)
            ∙ unmade-rows instance t.table past (emitted past request) (ltb-false t.table (length past) is)

    same : nat_lt t.table (length past) ≡ true → is_paused instance t.table past ≡ false → new_rows instance t past request ≡ counted
    same made active =
        sym (ap (λ (b : Bool). counted_by t.table b (hist_triggers instance past) (emitted past request)) active
        ∙ counted-rows t.table (hist_triggers instance past) (emitted past request)
        ∙ rows-then instance t (later ++ request ∷ []) past (emitted past request) there (ltb-true t.table (length past) made))

union-is : (instance : Option (List ℕ)) (t : HistTrigger) (later past : List Request) → IsIn t (hist_triggers instance (later ++ past))
    → union instance t later past ≡ (if some_later (clears instance t.table) later past then [] else hits_of instance t.table past)
unfolding union
union-is instance t later [] there = by (some_later (clears instance t.table) later [])
  where
    none : List Hit
    none = []

    by : (gone : Bool) → none ≡ (if gone then [] else [])
    by true = refl
    by false = refl
union-is instance t later (request ∷ past) there =
    let inside : IsIn t (hist_triggers instance ((later ++ request ∷ []) ++ past)) =
    subst (λ (p : List Request). IsIn t (hist_triggers instance p)) (sym (append_assoc later (request ∷ []) past)) there in
    union-next instance t later past request inside (union-is instance t (later ++ request ∷ []) past inside)

pub named_tables_are_unions : NamedTablesAreUnions
unfolding union
named_tables_are_unions instance past =
    in-all (λ t. (hits_of instance t.table past ≡ rows_of_name instance t past) ×
    (table_of instance t past ≡ grouped t.spec (rows_of_name instance t past)))
    (hist_triggers instance past)
    (λ t there. let is : hits_of instance t.table past ≡ rows_of_name instance t past = sym (union-is instance t [] past there) in
    (is, ap (grouped t.spec) is))
