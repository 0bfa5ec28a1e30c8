-- The rows of a table, while requests come.
use Rattle.std.proofs.Common.{◌≡◌, ℕ, Bool, false, if◌then◌else◌, List, [], ◌∷◌, ◌++◌, length, take, Option, sym, ap, ◌∙◌}
use Rattle.std.proofs.lemmas.List.{append-nil, append_assoc}
use Rattle.hist_entries.specs.Hits.{Hit}
use Rattle.hist_entries.specs.RowPlaces.{entry_keys}
use Rattle.trace_hist.specs.Groups.{group, grouped}
use Rattle.trace_command.specs.Requests.{Request}
use Rattle.tracer_specification.specs.Emissions.{emitted}
use Rattle.tracer_specification.specs.HistTriggers.{asked_by, counted_by, empties, hist_triggers, hits_of, is_paused}
use Rattle.tracer_specification.specs.Laws.{some_later}
use Rattle.tracer_specification.proofs.Members.{both-false}
use Rattle.history_laws.specs.GroupedRows.{RowsAreTold, HitcountsAreHits, SumsAreOfTheirRows, SumsAreOfCountedRows, EntriesStay, EntriesFit, DroppedIsFull, TiesAreByFirstRow}
use Rattle.history_laws.specs.HistogramRows.{HistogramsAreAccountedFor, HistogramsKeepTheirEntries, entries_of}

pub histograms_are_accounted_for : RowsAreTold → HitcountsAreHits → SumsAreOfTheirRows → SumsAreOfCountedRows → EntriesFit → DroppedIsFull → TiesAreByFirstRow → HistogramsAreAccountedFor
unfolding grouped
histograms_are_accounted_for told hitcounts sums all_sums fit full ties instance t past =
    let rows = hits_of instance t.table past in
    let width = length t.spec.value_sources in
    record {
      told = told t.spec.size width rows;
      hitcounts = hitcounts t.spec.size width rows;
      sums = λ index few. sums t.spec.size width index rows few;
      all_sums = λ index few. all_sums t.spec.size width index rows few;
      fit = fit t.spec.size width rows;
      full = full t.spec.size width rows;
      ties = ties t.spec.sort_sources t.spec.size width rows;
    }

-- the rows that were counted since
record IsMore (instance : Option (List ℕ)) (table : ℕ) (later past : List Request) : Type 0 where
  rows : List Hit
  is : hits_of instance table (later ++ past) ≡ hits_of instance table past ++ rows

more-rows : (instance : Option (List ℕ)) (table : ℕ) (later past : List Request)
    → some_later (λ before request. empties (asked_by instance table before request)) later past ≡ false → IsMore instance table later past
more-rows instance table [] past kept = record { rows = []; is = sym (append-nil (hits_of instance table past)) }
more-rows instance table (request ∷ later) past kept =
    let asks : List Request → Request → Bool = λ before r. empties (asked_by instance table before r) in
    let before = later ++ past in
    let apart = both-false (asks before request) (some_later asks later past) kept in
    let older = more-rows instance table later past apart.1 in
    let counted = counted_by table (is_paused instance table before) (hist_triggers instance before) (emitted before request) in
    record {
      rows = older.rows ++ counted;
      is = ap (λ (b : Bool). if b then [] else hits_of instance table before ++ counted) apart.0
          ∙ ap (λ (rows : List Hit). rows ++ counted) older.is ∙ append_assoc (hits_of instance table past) older.rows counted;
    }

pub histograms_keep_their_entries : EntriesStay → HistogramsKeepTheirEntries
unfolding grouped
histograms_keep_their_entries stay instance t later past kept =
    let more = more-rows instance t.table later past kept in
    let width = length t.spec.value_sources in
    ap (λ (rows : List Hit). take (length (entries_of instance t past)) (entry_keys (group t.spec.size width rows).entries)) more.is
    ∙ stay t.spec.size width (hits_of instance t.table past) more.rows
