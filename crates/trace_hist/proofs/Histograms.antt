-- What callers see of a histogram, by what it has counted.
use Rattle.std.proofs.Common.{◌≡◌, ℕ, ◌+◌, ◌<◌, ◌≢◌, Bool, true, false, List, ◌++◌, ◌∷◌, [], length, not, refl, sym, ap, ◌∙◌, subst}
use Rattle.std.specs.Prelude.{Result, Ok, Err, OnOk, OnErr}
use Rattle.std.specs.declared.alloc.AllocError.{AllocError}
use Rattle.std.proofs.lemmas.Result.{on_ok_weaker, on_err_weaker}
use Rattle.std.proofs.lemmas.List.Filters.{length-filter_both}
use Rattle.trace_format.specs.Operands.{Emission}
use Rattle.trace_trigger.specs.HistSpecs.{SpecSeen}
use Rattle.hist_entries.specs.Hits.{Hit}
use Rattle.trace_hist.specs.TriggerHits.{hit_of}
use Rattle.trace_hist.specs.Groups.{Table, admitted, grouped}
use Rattle.hist_entries.specs.HistEntries.{is_among}
use Rattle.hist_entries.specs.RowPlaces.{In, IsPlaceOf, entry_keys}
use Rattle.trace_hist.specs.Hists.{Seen, StandsFor, IsReservedAs, IsReservedForKey, NeedsEntryAs, IsReservedFor, IsCountedFor, counted}
use Rattle.trace_hist.specs.Laws.{CountedAreTheRows, StandingIsOfTheTable, TablesAreGrouped}
use Rattle.trace_hist.specs.Stored.{seen_of, Kept}
use Rattle.trace_hist.specs.private.Steps.{AreOf, after_hit}
use Rattle.trace_hist.proofs.Counting.{counted-after_row, stands-after_row, still-place}

abbrev Unit0 : Type 0
Unit0 = Unit {0}

-- a paused histogram needs nothing
paused-reserved : (hist : Seen) (by : SpecSeen) (emission : Emission) → hist.paused ≡ true → IsReservedAs hist by emission
unfolding IsReservedAs
paused-reserved hist by emission paused = λ active. (let clash = sym active ∙ paused in cc)

pub idle-reserved : (hist : Seen) (by : SpecSeen) (emission : Emission) → hist.paused ≡ true → IsReservedFor by emission hist hist
idle-reserved hist by emission paused = record { kept = refl; ready = paused-reserved hist by emission paused }

-- and counts nothing
pub idle-counted : (hist : Seen) (by : SpecSeen) (emission : Emission) → hist.paused ≡ true → IsCountedFor by emission hist hist
idle-counted hist by emission paused = record {
  spec = refl;
  state = refl;
  stands = λ rows stands active. (let clash = sym active ∙ paused in cc);
  more = λ active. (let clash = sym active ∙ paused in cc);
  idle = λ _. refl;
  still = λ other row same. paused-reserved hist other row paused;
}

module _ (spec : SpecSeen) (paused : Bool) (counts : Kept) (are : AreOf spec counts) where
  -- ---- a row that is counted

  module _ (now : Seen) (view : seen_of spec paused counts ≡ now) (left : Kept) (hit : Hit) (counted : left ≡ after_hit counts hit) where
    hit-stands : (rows : List Hit) → StandsFor now rows → StandsFor (seen_of spec paused left) (rows ++ hit ∷ [])
    unfolding StandsFor
    hit-stands rows stands =
        let was : counts.table ≡ grouped spec rows =
        ap (λ (s : Seen). s.table) view ∙ stands ∙ ap (λ (s : Seen). grouped s.spec rows) (sym view) in
        ap (λ (k : Kept). k.table) counted ∙ stands-after_row spec counts.size counts.width counts.table rows hit are.size are.width was

    hit-still : IsPlaceOf counts.next counts.size counts.table.entries hit.key → IsReservedForKey (seen_of spec paused left) hit.key
    unfolding IsReservedAs
    hit-still place = λ other emission same active.
        let after = still-place counts.next counts.size counts.width counts.table hit place in
        let there : IsPlaceOf left.next counts.size left.table.entries hit.key =
        subst (λ (k : Kept). IsPlaceOf k.next counts.size k.table.entries hit.key) (sym counted) after in
        let sized : IsPlaceOf left.next spec.size left.table.entries hit.key =
        subst (λ (n : ℕ). IsPlaceOf left.next n left.table.entries hit.key) are.size there in
        subst (λ key. IsPlaceOf left.next spec.size left.table.entries key) (sym same) sized

  -- ---- a row that is reserved

  module _ (now : Seen) (view : seen_of spec paused counts ≡ now) (by : SpecSeen) (emission : Emission) (active : paused ≡ false) where
    pub place-reserved : IsReservedAs now by emission → IsPlaceOf counts.next counts.size counts.table.entries (hit_of by emission).key
    unfolding IsReservedAs
    place-reserved reserved =
        let there : IsReservedAs (seen_of spec paused counts) by emission = subst (λ (s : Seen). IsReservedAs s by emission) (sym view) reserved in
        subst (λ (n : ℕ). IsPlaceOf counts.next n counts.table.entries (hit_of by emission).key) (sym are.size) (there active)

    needs-entry : length counts.table.entries < counts.size → is_among (entry_keys counts.table.entries) (hit_of by emission).key ≡ false
        → counts.next ≢ In (hit_of by emission).key → NeedsEntryAs now by emission
    needs-entry room new unreserved =
        let needs : NeedsEntryAs (seen_of spec paused counts) by emission = record {
          active = active;
          room = subst (λ (n : ℕ). length counts.table.entries < n) are.size room;
          new = new;
          unreserved = unreserved;
        } in
        subst (λ (s : Seen). NeedsEntryAs s by emission) view needs

  -- what a call that counts tells
  pub told-counted : (now : Seen) → seen_of spec paused counts ≡ now → (left : Kept) (by : SpecSeen) (emission : Emission) → paused ≡ false
      → left ≡ after_hit counts (hit_of by emission) → IsReservedAs now by emission → IsCountedFor by emission now (seen_of spec paused left)
  told-counted now view left by emission active came reserved = record {
    spec = ap (λ (s : Seen). s.spec) view;
    state = ap (λ (s : Seen). s.paused) view;
    stands = λ rows stands _. hit-stands now view left (hit_of by emission) came rows stands;
    more = λ _. ap (λ (k : Kept). k.table.hits + k.table.dropped) came ∙ counted-after_row counts.size counts.width counts.table (hit_of by emission)
        ∙ ap (λ (s : Seen). counted s + 1) view;
    idle = λ stopped. (let clash = sym active ∙ ap (λ (s : Seen). s.paused) view ∙ stopped in cc);
    still = hit-still now view left (hit_of by emission) came (place-reserved now view by emission active reserved);
  }

  -- what was reserved, with the entries that are shown as they were
  reserved-place : (left : Kept) (by : SpecSeen) (emission : Emission) → left.table ≡ counts.table
      → IsPlaceOf left.next counts.size counts.table.entries (hit_of by emission).key → IsReservedAs (seen_of spec paused left) by emission
  unfolding IsReservedAs
  reserved-place left by emission same place = λ active.
      let sized : IsPlaceOf left.next spec.size counts.table.entries (hit_of by emission).key =
      subst (λ (n : ℕ). IsPlaceOf left.next n counts.table.entries (hit_of by emission).key) are.size place in
      subst (λ (t : Table). IsPlaceOf left.next spec.size t.entries (hit_of by emission).key) (sym same) sized

  -- what a call that reserves tells
  module _ (now : Seen) (view : seen_of spec paused counts ≡ now) (left : Kept) (by : SpecSeen) (emission : Emission) (result : Result Unit0 AllocError)
      (same : left.table ≡ counts.table) where
    pub told-reserved : OnOk result (IsPlaceOf left.next counts.size counts.table.entries (hit_of by emission).key)
        → OnOk result (IsReservedFor by emission now (seen_of spec paused left))
    told-reserved place = on_ok_weaker result (λ here. reserved-for (reserved-place left by emission same here)) place
      where
        reserved-for : IsReservedAs (seen_of spec paused left) by emission → IsReservedFor by emission now (seen_of spec paused left)
        reserved-for ready = record {
          kept = ap (λ (t : Table). (let s : Seen = record { spec = spec; paused = paused; table = t; next = left.next } in s)) same
              ∙ ap (λ (s : Seen). (let r : Seen = record s { next = left.next } in r)) view;
          ready = ready;
        }

    pub told-unchanged : OnErr result (left ≡ counts) → OnErr result (seen_of spec paused left ≡ now)
    told-unchanged err = on_err_weaker result (λ e. ap (λ (k : Kept). seen_of spec paused k) e ∙ view) err

    pub told-needed : paused ≡ false → OnErr result (length counts.table.entries < counts.size)
        → OnErr result (is_among (entry_keys counts.table.entries) (hit_of by emission).key ≡ false)
        → OnErr result (counts.next ≢ In (hit_of by emission).key) → OnErr result (NeedsEntryAs now by emission)
    told-needed active room new unreserved = at result room new unreserved
      where
        at : (r : Result Unit0 AllocError) → OnErr r (length counts.table.entries < counts.size) → OnErr r (is_among (entry_keys counts.table.entries) (hit_of by emission).key ≡ false)
            → OnErr r (counts.next ≢ In (hit_of by emission).key) → OnErr r (NeedsEntryAs now by emission)
        at (Ok value) room new unreserved = tt
        at (Err error) room new unreserved = needs-entry now view by emission active room new unreserved

-- ---- what it stands for

pub tables_are_grouped : TablesAreGrouped
unfolding StandsFor
tables_are_grouped hist rows stands = stands

pub standing_is_of_the_table : StandingIsOfTheTable
unfolding StandsFor
standing_is_of_the_table old new rows spec table stands = table ∙ stands ∙ ap (λ s. grouped s rows) (sym spec)

pub counted_are_the_rows : CountedAreTheRows
unfolding StandsFor grouped
counted_are_the_rows hist rows stands =
    let among : Hit → Bool = λ hit. is_among (admitted hist.spec.size rows) hit.key in
    ap (λ (t : Table). t.hits + t.dropped) stands ∙ length-filter_both among (λ hit. not (among hit)) (λ hit. refl) rows
