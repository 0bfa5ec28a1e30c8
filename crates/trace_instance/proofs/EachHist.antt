-- Hist triggers that an emission reaches one after the other: what a loop over those of its event keeps of their tables.
use Rattle.std.proofs.Common.{◌≡◌, ◌≢◌, ℕ, zero, suc, ◌+◌, ◌<◌, ◌≤◌, ◌==◌, Bool, true, false, ◌&&◌, if◌then◌else◌, List, [], ◌∷◌, ◌++◌, length, map, take, get_or, set, IfSome, Option, None, Some, option_map, ⊎_elim, refl, sym, ap, ◌∙◌, subst, arith, below_more, eq-eqb, append-nil}
use Rattle.std.specs.List.{flat_map, Any}
use Rattle.std.proofs.lemmas.Bool.{and_right, cases_eq, false≢true, ne_eqb}
use Rattle.std.proofs.lemmas.List.{append_assoc, get_or_default}
use Rattle.trace_format.specs.Cells.{Datum}
use Rattle.trace_format.specs.Operands.{Emission}
use Rattle.trace_hist.specs.Groups.{grouped}
use Rattle.trace_trigger.specs.HistSpecs.{SpecSeen}
use Rattle.trace_format.specs.declared.key.Key.{Key}
use Rattle.hist_entries.specs.Hits.{Hit, key_cell}
use Rattle.trace_hist.specs.TriggerHits.{hit_of}
use Rattle.hist_entries.specs.HistEntries.{Entry}
use Rattle.hist_entries.specs.RowPlaces.{Place, Unknown, In, Nowhere, IsPlaceOf, most_rows}
use Rattle.trace_hist.specs.Hists.{HasRoom, IsCountedFor, IsReservedAs, Seen, StandsFor, counted}
use Rattle.trace_trigger.specs.SameSpecs.{is_passed}
use Rattle.trace_instance.specs.KeptHists.{CanCount, IsHit, IsHitIf, KeptTable, KeysAgree, NeedsMemory, NeedsMemoryIn, is_passed_at, kept_at, kept_table, passed, row_counted, rows_counted, table_numbered}
use Rattle.trace_instance.specs.private.Tables.{IsCounted}
use Rattle.trace_instance.specs.declared.hists.AttachedHist.{AttachedHist}
use Rattle.trace_instance.specs.declared.tables.Table.{Table}

-- ---- the filters that an emission passes

-- what is known at an index is what the one there says
pub passed_at : (emission : Emission) (hists : List AttachedHist) (i : ℕ) (d : AttachedHist) → i < length hists
    → is_passed_at emission hists i ≡ is_passed (get_or hists i d).spec.filter emission
passed_at emission [] i d inside = absurd (omega (arith, inside))
passed_at emission (a ∷ hists) zero d inside = refl
passed_at emission (a ∷ hists) (suc i) d inside = passed_at emission hists i d (omega (arith, inside))

pub passed_here : (emission : Emission) (hists : List AttachedHist) (i : ℕ) (a : AttachedHist) → i < length hists → i < 4 → a ≡ get_or hists i a
    → get_or (passed emission hists) i false ≡ is_passed a.spec.filter emission
passed_here emission hists i a inside small is =
    get_or_passed i small ∙ passed_at emission hists i a inside ∙ ap (λ (b : AttachedHist). is_passed b.spec.filter emission) (sym is)
  where
    get_or_passed : (i : ℕ) → i < 4 → get_or (passed emission hists) i false ≡ is_passed_at emission hists i
    get_or_passed zero small = refl
    get_or_passed (suc zero) small = refl
    get_or_passed (suc (suc zero)) small = refl
    get_or_passed (suc (suc (suc zero))) small = refl
    get_or_passed (suc (suc (suc (suc i)))) small = absurd (omega (arith, small))

-- what is known with one more of them
pub passed-more : (emission : Emission) (hists : List AttachedHist) (k : ℕ) (a : AttachedHist) → k < length hists → k < 4 → a ≡ get_or hists k a
    → set (passed emission (take k hists)) k (is_passed a.spec.filter emission) ≡ passed emission (take (k + 1) hists)
passed-more emission [] k a inside small is = absurd (omega (arith, inside))
passed-more emission (h ∷ hists) zero a inside small is = rw is refl
passed-more emission (h ∷ []) (suc k) a inside small is = absurd (omega (arith, inside))
passed-more emission (h ∷ i ∷ hists) (suc zero) a inside small is = rw is refl
passed-more emission (h ∷ i ∷ []) (suc (suc k)) a inside small is = absurd (omega (arith, inside))
passed-more emission (h ∷ i ∷ j ∷ hists) (suc (suc zero)) a inside small is = rw is refl
passed-more emission (h ∷ i ∷ j ∷ []) (suc (suc (suc k))) a inside small is = absurd (omega (arith, inside))
passed-more emission (h ∷ i ∷ j ∷ l ∷ hists) (suc (suc (suc zero))) a inside small is = rw is refl
passed-more emission (h ∷ i ∷ j ∷ l ∷ hists) (suc (suc (suc (suc k)))) a inside small is = absurd (omega (arith, small))

-- ---- memory that is reserved

-- what is reserved for a trigger's key is so for another one with the same keys
reserved-alike : (emission : Emission) (found : Option Seen) (by other : SpecSeen) → by.keys ≡ other.keys
    → IfSome found (λ (hist : Seen). IsReservedAs hist by emission) → IfSome found (λ (hist : Seen). IsReservedAs hist other emission)
unfolding IsReservedAs
reserved-alike emission None by other same ready = tt
reserved-alike emission (Some hist) by other same ready =
    λ active. subst (λ (keys : List Key). IsPlaceOf hist.next hist.spec.size hist.table.entries (map (key_cell emission) keys)) same (ready active)

-- two of an event that count in one table have the same keys
same-keys : (hists : List AttachedHist) (i j : ℕ) (a d : AttachedHist) → KeysAgree hists → i < length hists → j < length hists → a ≡ get_or hists i a
    → (get_or hists j d).table ≡ a.table → a.spec.keys ≡ (get_or hists j d).spec.keys
same-keys hists i j a d agree inside within is same =
    let here : get_or hists i d ≡ a = get_or_default hists i d a inside ∙ sym is in
    ap (λ (b : AttachedHist). b.spec.keys) (sym here)
    ∙ agree i j d inside within (ap (λ (b : AttachedHist). b.table) here ∙ sym same)

-- one more of them can count
pub reserved-more : (emission : Emission) (hists : List AttachedHist) (i : ℕ) (a : AttachedHist) (old new : List Table) → KeysAgree hists
    → i < length hists → a ≡ get_or hists i a → ((number : ℕ) → (number ≡ a.table → ⊥) → table_numbered number new ≡ table_numbered number old)
    → IfSome (table_numbered a.table new) (λ (hist : Seen). IsReservedAs hist a.spec emission)
    → ((k : ℕ) (d : AttachedHist) → k < i → CanCount emission old (get_or hists k d))
    → (k : ℕ) (d : AttachedHist) → k < i + 1 → CanCount emission new (get_or hists k d)
reserved-more emission hists i a old new agree inside is others ready before = λ k d h. below_more
    (λ (j : ℕ). (e : AttachedHist) → CanCount emission new (get_or hists j e)) i
    (λ j below e passes. ⊎_elim
    (λ (same : (get_or hists j e).table ≡ a.table). rw same
    (reserved-alike emission (table_numbered a.table new) a.spec (get_or hists j e).spec
    (same-keys hists i j a e agree inside (omega (arith, below, inside)) is same) ready))
    (λ (apart : (get_or hists j e).table ≡ a.table → ⊥). rw (others (get_or hists j e).table apart) (before j e below passes))
    (cases_eq (get_or hists j e).table a.table))
    (λ e passes.
    let here : get_or hists i e ≡ a = get_or_default hists i e a inside ∙ sym is in
    rw here ready)
    k h d

-- one that an emission does not reach needs nothing
pub unreserved-more : (emission : Emission) (hists : List AttachedHist) (i : ℕ) (a : AttachedHist) (tables : List Table) → i < length hists
    → a ≡ get_or hists i a → is_passed a.spec.filter emission ≡ false → ((k : ℕ) (d : AttachedHist) → k < i → CanCount emission tables (get_or hists k d))
    → (k : ℕ) (d : AttachedHist) → k < i + 1 → CanCount emission tables (get_or hists k d)
unreserved-more emission hists i a tables inside is off before = λ k d h. below_more
    (λ (j : ℕ). (e : AttachedHist) → CanCount emission tables (get_or hists j e)) i
    (λ j below e. before j e below)
    (λ e passes.
    let same : get_or hists i e ≡ a = get_or_default hists i e a inside ∙ sym is in
    absurd (false≢true (sym off ∙ ap (λ (b : AttachedHist). is_passed b.spec.filter emission) (sym same) ∙ passes)))
    k h d

-- ---- memory that is refused

reserved-there : (place : Place) (size : ℕ) (entries : List Entry) (key : List Datum) → IsPlaceOf place size entries key → length entries < size
    → place ≢ In key → ⊥
reserved-there Unknown size entries key is room new = is
reserved-there (In other) size entries key is room new = new (ap In is)
reserved-there Nowhere size entries key is room new = omega (arith, is.1, room)

-- a row that is reserved in a table needs no memory there
reserved-enough : (emission : Emission) (found : Option Seen) (by : SpecSeen) → IfSome found (λ (hist : Seen). IsReservedAs hist by emission)
    → NeedsMemoryIn by emission found → ⊥
unfolding IsReservedAs
reserved-enough emission None by ready needs = needs
reserved-enough emission (Some hist) by ready needs =
    reserved-there hist.next hist.spec.size hist.table.entries (hit_of by emission).key (ready needs.active) needs.room needs.unreserved

-- an emission passes the filter of none of the first so many that count in the table of a number
abbrev pub IsUntouched : Emission → List AttachedHist → ℕ → ℕ → Type 0
IsUntouched emission hists i number =
    (k : ℕ) (d : AttachedHist) → k < i → is_passed (get_or hists k d).spec.filter emission ≡ true → (get_or hists k d).table ≡ number → ⊥

-- such a table stays, with one more of them
pub untouched-more : (emission : Emission) (hists : List AttachedHist) (i : ℕ) (a : AttachedHist) (old now new : List Table) → i < length hists
    → a ≡ get_or hists i a → is_passed a.spec.filter emission ≡ true
    → ((number : ℕ) → (number ≡ a.table → ⊥) → table_numbered number new ≡ table_numbered number now)
    → ((number : ℕ) → IsUntouched emission hists i number → table_numbered number now ≡ table_numbered number old)
    → (number : ℕ) → IsUntouched emission hists (i + 1) number → table_numbered number new ≡ table_numbered number old
untouched-more emission hists i a old now new inside is on others was number none =
    let apart : number ≡ a.table → ⊥ = λ same. none i a (omega arith)
    (ap (λ (b : AttachedHist). is_passed b.spec.filter emission) (sym is) ∙ on) (ap (λ (b : AttachedHist). b.table) (sym is) ∙ sym same) in
    others number apart ∙ was number (λ k d below. none k d (omega (arith, below)))

-- the one for whose row memory is refused needs it, and did before the first of them
pub memory-needed : (emission : Emission) (hists : List AttachedHist) (i : ℕ) (a : AttachedHist) (old now : List Table) → KeysAgree hists
    → i < length hists → a ≡ get_or hists i a → is_passed a.spec.filter emission ≡ true
    → ((k : ℕ) (d : AttachedHist) → k < i → CanCount emission now (get_or hists k d))
    → ((number : ℕ) → IsUntouched emission hists i number → table_numbered number now ≡ table_numbered number old)
    → NeedsMemoryIn a.spec emission (table_numbered a.table now) → Any (NeedsMemory emission old) hists
memory-needed emission hists i a old now agree inside is on ready was needs =
    let first : IsUntouched emission hists i a.table = λ k d below passes same.
    let found = table_numbered a.table now in
    let there : IfSome found (λ (hist : Seen). IsReservedAs hist (get_or hists k d).spec emission) =
    subst (λ (n : ℕ). IfSome (table_numbered n now) (λ (hist : Seen). IsReservedAs hist (get_or hists k d).spec emission)) same (ready k d below passes) in
    reserved-enough emission found a.spec
    (reserved-alike emission found (get_or hists k d).spec a.spec (sym (same-keys hists i k a d agree inside (omega (arith, below, inside)) is same)) there)
    needs in
    (i, a, inside, sym is, record { passes = on; entry = subst (NeedsMemoryIn a.spec emission) (was a.table first) needs })

-- ---- rows that are counted

-- one row at most
counted-few : (by : SpecSeen) (emission : Emission) (old new : Seen) → IsCountedFor by emission old new → counted new ≤ counted old + 1
counted-few by emission old new came = by_pause old.paused refl
  where
    by_pause : (paused : Bool) → old.paused ≡ paused → counted new ≤ counted old + 1
    by_pause true is = let same = ap counted (came.idle is) in omega (arith, same)
    by_pause false is = omega (arith, came.more is)

-- no rows were counted
none-hit : (paused : Bool) (rows : List Hit) (k : KeptTable) → rows ≡ [] → IsHit rows k k
none-hit paused rows k none = record {
  spec = refl;
  paused = refl;
  table = λ before was. rw (none, append-nil) was;
}

pub none-hit-yet : (rows : Bool → List Hit) (found : Option KeptTable) → ((paused : Bool) → rows paused ≡ []) → IsHitIf rows found found
none-hit-yet rows None none = tt
none-hit-yet rows (Some k) none = none-hit k.paused (rows k.paused) k (none k.paused)

-- the same rows in other words
same-hit : (rows more : Bool → List Hit) (old new : Option KeptTable) → ((paused : Bool) → rows paused ≡ more paused) → IsHitIf rows old new
    → IsHitIf more old new
same-hit rows more (Some old) (Some new) same hit = subst (λ (r : List Hit). IsHit r old new) (same old.paused) hit
same-hit rows more old new same hit = hit

-- and one row more
kept-counted : (by : SpecSeen) (emission : Emission) (rows more : Bool → List Hit) (old : Option KeptTable) (now new : Option Seen)
    → more true ≡ rows true → more false ≡ rows false ++ hit_of by emission ∷ []
    → IsHitIf rows old (option_map kept_table now) → IsCounted by emission now new → IsHitIf more old (option_map kept_table new)
unfolding StandsFor
kept-counted by emission rows more None None None idle active hit came = tt
kept-counted by emission rows more None None (Some new) idle active hit came = absurd came
kept-counted by emission rows more None (Some now) new idle active hit came = absurd hit
kept-counted by emission rows more (Some old) None new idle active hit came = absurd hit
kept-counted by emission rows more (Some old) (Some now) None idle active hit came = absurd came
kept-counted by emission rows more (Some old) (Some now) (Some new) idle active hit came = record {
  spec = came.spec ∙ hit.spec;
  paused = came.state ∙ hit.paused;
  table = λ before was. by_pause before was old.paused refl;
}
  where
    specs : now.spec ≡ old.spec
    specs = hit.spec

    stood : (before : List Hit) → old.table ≡ grouped old.spec before → now.table ≡ grouped now.spec (before ++ rows old.paused)
    stood before was = hit.table before was ∙ ap (λ (s : SpecSeen). grouped s (before ++ rows old.paused)) (sym specs)

    by_pause : (before : List Hit) → old.table ≡ grouped old.spec before → (paused : Bool) → old.paused ≡ paused
        → new.table ≡ grouped old.spec (before ++ more old.paused)
    by_pause before was true is =
        ap (λ (s : Seen). s.table) (came.idle (hit.paused ∙ is)) ∙ hit.table before was
        ∙ ap (λ (p : Bool). grouped old.spec (before ++ rows p)) is ∙ ap (λ (r : List Hit). grouped old.spec (before ++ r)) (sym idle)
        ∙ ap (λ (p : Bool). grouped old.spec (before ++ more p)) (sym is)
    by_pause before was false is =
        came.stands (before ++ rows old.paused) (stood before was) (hit.paused ∙ is)
        ∙ ap (λ (s : SpecSeen). grouped s ((before ++ rows old.paused) ++ hit_of by emission ∷ [])) (came.spec ∙ specs)
        ∙ ap (λ (r : List Hit). grouped old.spec r)
        (append_assoc before (rows old.paused) (hit_of by emission ∷ [])
        ∙ ap (λ (p : Bool). before ++ (rows p ++ hit_of by emission ∷ [])) is
        ∙ ap (λ (r : List Hit). before ++ r) (sym active)
        ∙ ap (λ (p : Bool). before ++ more p) (sym is))

-- rows of one trigger more
rows-more : (number : ℕ) (emission : Emission) (hists : List AttachedHist) (i : ℕ) (a : AttachedHist) → i < length hists → a ≡ get_or hists i a
    → flat_map (row_counted number emission) (take (i + 1) hists) ≡ flat_map (row_counted number emission) (take i hists) ++ row_counted number emission a
rows-more number emission [] i a inside is = absurd (omega (arith, inside))
rows-more number emission (b ∷ hists) zero a inside is =
    append-nil (row_counted number emission b) ∙ ap (row_counted number emission) (sym is)
rows-more number emission (b ∷ hists) (suc i) a inside is =
    let next : suc i + 1 ≡ suc (i + 1) = omega arith in
    ap (λ (n : ℕ). flat_map (row_counted number emission) (take n (b ∷ hists))) next
    ∙ ap (λ (rows : List Hit). row_counted number emission b ++ rows) (rows-more number emission hists i a (omega (arith, inside)) is)
    ∙ sym (append_assoc (row_counted number emission b) (flat_map (row_counted number emission) (take i hists)) (row_counted number emission a))

-- ---- a loop over the triggers of an event

-- what the first so many of them counted
abbrev pub first_counted : ℕ → Emission → List AttachedHist → ℕ → Bool → List Hit
first_counted i emission hists number paused = rows_counted number paused (take i hists) emission

-- the tables after the first so many of them were reached
pub record AreReached (emission : Emission) (hists : List AttachedHist) (i : ℕ) (old now : List Table) : Type 0 where
  pub hit : (number : ℕ) → IsHitIf (first_counted i emission hists number) (kept_at number old) (kept_at number now)
  pub ready : (k : ℕ) (d : AttachedHist) → i ≤ k → k < length hists → CanCount emission now (get_or hists k d)
  pub few : (k : ℕ) (d : AttachedHist) → k < length hists
      → IfSome (table_numbered (get_or hists k d).table now) (λ (hist : Seen). counted hist + 4 ≤ most_rows + i)

pub nothing-counted : (number : ℕ) (emission : Emission) (paused : Bool) → rows_counted number paused [] emission ≡ []
nothing-counted number emission true = refl
nothing-counted number emission false = refl

room-some : (n i : ℕ) (found : Option Seen) → IfSome found (λ (hist : Seen). counted hist + 4 ≤ most_rows + n)
    → IfSome found (λ (hist : Seen). counted hist + 4 ≤ most_rows + (n + i))
room-some n i None few = tt
room-some n i (Some hist) few = omega (arith, few)

-- one that an emission does not reach
counted-none : (number i : ℕ) (emission : Emission) (hists : List AttachedHist) (a : AttachedHist) (paused : Bool) → i < length hists
    → a ≡ get_or hists i a → row_counted number emission a ≡ []
    → first_counted i emission hists number paused ≡ first_counted (i + 1) emission hists number paused
counted-none number i emission hists a true inside is none = refl
counted-none number i emission hists a false inside is none =
    sym (rows-more number emission hists i a inside is ∙ ap (λ (r : List Hit). flat_map (row_counted number emission) (take i hists) ++ r) none
    ∙ append-nil (flat_map (row_counted number emission) (take i hists)))

pub unreached-more : (emission : Emission) (hists : List AttachedHist) (i : ℕ) (a : AttachedHist) (old now : List Table) → i < length hists
    → a ≡ get_or hists i a → is_passed a.spec.filter emission ≡ false → AreReached emission hists i old now
    → AreReached emission hists (i + 1) old now
unreached-more emission hists i a old now inside is off was = record {
  hit = λ number.
      let none : row_counted number emission a ≡ [] =
      ap (λ (b : Bool). (let r : List Hit = if b then hit_of a.spec emission ∷ [] else [] in r)) (and_right (a.table == number) _ off) in
      same-hit (first_counted i emission hists number) (first_counted (i + 1) emission hists number) (kept_at number old) (kept_at number now)
      (λ paused. counted-none number i emission hists a paused inside is none) (was.hit number);
  ready = λ k d from within. was.ready k d (omega (arith, from)) within;
  few = λ k d within. room-some i 1 (table_numbered (get_or hists k d).table now) (was.few k d within);
}

-- what was counted leaves what another one with its keys needs
still-ready : (by other : SpecSeen) (emission : Emission) (now new : Option Seen) → by.keys ≡ other.keys → IsCounted by emission now new
    → IfSome new (λ (hist : Seen). IsReservedAs hist other emission)
still-ready by other emission now None same came = tt
still-ready by other emission None (Some new) same came = absurd came
still-ready by other emission (Some now) (Some new) same came =
    came.still other emission (ap (λ (keys : List Key). map (key_cell emission) keys) (sym same))

room-more : (by : SpecSeen) (emission : Emission) (i : ℕ) (now new : Option Seen) → IsCounted by emission now new
    → IfSome now (λ (hist : Seen). counted hist + 4 ≤ most_rows + i) → IfSome new (λ (hist : Seen). counted hist + 4 ≤ most_rows + (i + 1))
room-more by emission i now None came few = tt
room-more by emission i None (Some new) came few = absurd came
room-more by emission i (Some now) (Some new) came few = omega (arith, few, counted-few by emission now new came)

-- what the one at an index needs is there
pub ready-here : (emission : Emission) (hists : List AttachedHist) (i : ℕ) (a : AttachedHist) (old now : List Table) → i < length hists
    → a ≡ get_or hists i a → is_passed a.spec.filter emission ≡ true → AreReached emission hists i old now
    → IfSome (table_numbered a.table now) (λ (hist : Seen). IsReservedAs hist a.spec emission)
ready-here emission hists i a old now inside is on was = subst (CanCount emission now) (sym is) (was.ready i a (omega arith) inside) on

pub room-here : (emission : Emission) (hists : List AttachedHist) (i : ℕ) (a : AttachedHist) (old now : List Table) → i < 4 → i < length hists
    → a ≡ get_or hists i a → AreReached emission hists i old now → IfSome (table_numbered a.table now) HasRoom
room-here emission hists i a old now small inside is was =
    by (table_numbered a.table now) (subst (λ (b : AttachedHist). IfSome (table_numbered b.table now) (λ (hist : Seen). counted hist + 4 ≤ most_rows + i)) (sym is)
    (was.few i a inside))
  where
    by : (found : Option Seen) → IfSome found (λ (hist : Seen). counted hist + 4 ≤ most_rows + i) → IfSome found HasRoom
    by None few = tt
    by (Some hist) few = omega (arith, few, small)

-- one that was reached has counted its row
pub reached-more : (emission : Emission) (hists : List AttachedHist) (i : ℕ) (a : AttachedHist) (old now new : List Table) → KeysAgree hists
    → i < length hists → a ≡ get_or hists i a → is_passed a.spec.filter emission ≡ true
    → IsCounted a.spec emission (table_numbered a.table now) (table_numbered a.table new)
    → ((number : ℕ) → (number ≡ a.table → ⊥) → table_numbered number new ≡ table_numbered number now) → AreReached emission hists i old now
    → AreReached emission hists (i + 1) old new
reached-more emission hists i a old now new agree inside is on came others was = record {
  hit = λ number. ⊎_elim
      (λ (same : number ≡ a.table). subst (λ (n : ℕ). IsHitIf (first_counted (i + 1) emission hists n) (kept_at n old) (kept_at n new)) (sym same) here)
      (λ (apart : number ≡ a.table → ⊥). elsewhere number apart)
      (cases_eq number a.table);
  ready = λ k d from within passes. ⊎_elim
      (λ (same : (get_or hists k d).table ≡ a.table). rw same
      (still-ready a.spec (get_or hists k d).spec emission (table_numbered a.table now) (table_numbered a.table new)
      (same-keys hists i k a d agree inside within is same) came))
      (λ (apart : (get_or hists k d).table ≡ a.table → ⊥). rw (others (get_or hists k d).table apart)
      (was.ready k d (omega (arith, from)) within passes))
      (cases_eq (get_or hists k d).table a.table);
  few = λ k d within. ⊎_elim
      (λ (same : (get_or hists k d).table ≡ a.table). rw same
      (room-more a.spec emission i (table_numbered a.table now) (table_numbered a.table new) came
      (subst (λ (n : ℕ). IfSome (table_numbered n now) (λ (hist : Seen). counted hist + 4 ≤ most_rows + i)) same (was.few k d within))))
      (λ (apart : (get_or hists k d).table ≡ a.table → ⊥). rw (others (get_or hists k d).table apart)
      (room-some i 1 (table_numbered (get_or hists k d).table now) (was.few k d within)))
      (cases_eq (get_or hists k d).table a.table);
}
  where
    counts : row_counted a.table emission a ≡ hit_of a.spec emission ∷ []
    counts = rw (eq-eqb a.table a.table refl, on) refl

    here : IsHitIf (first_counted (i + 1) emission hists a.table) (kept_at a.table old) (kept_at a.table new)
    here = kept-counted a.spec emission (first_counted i emission hists a.table) (first_counted (i + 1) emission hists a.table) (kept_at a.table old)
        (table_numbered a.table now) (table_numbered a.table new) refl
        (rows-more a.table emission hists i a inside is
        ∙ ap (λ (r : List Hit). flat_map (row_counted a.table emission) (take i hists) ++ r) counts)
        (was.hit a.table) came

    elsewhere : (number : ℕ) → (number ≡ a.table → ⊥)
        → IsHitIf (first_counted (i + 1) emission hists number) (kept_at number old) (kept_at number new)
    elsewhere number apart =
        let none : row_counted number emission a ≡ [] =
        ap (λ (b : Bool). (let r : List Hit = if b && is_passed a.spec.filter emission then hit_of a.spec emission ∷ [] else [] in r))
        (ne_eqb a.table number (λ same. apart (sym same))) in
        subst (λ (o : Option Seen). IsHitIf (first_counted (i + 1) emission hists number) (kept_at number old) (option_map kept_table o))
        (sym (others number apart))
        (same-hit (first_counted i emission hists number) (first_counted (i + 1) emission hists number) (kept_at number old) (kept_at number now)
        (λ paused. counted-none number i emission hists a paused inside is none) (was.hit number))
