-- What the histogram of a hist trigger comes to, while requests come (histogram.rst, "hist triggers"). The newest request comes first.
use Rattle.std.specs.Prelude.{◌≡◌, ℕ, ◌+◌, ◌<◌, ◌≤◌, false, List, ◌++◌, length, map, sum_by, take, Option}
use Rattle.std.specs.List.{AllPairs}
use Rattle.std.specs.declared.cmp.Ordering.TheVariants.{Equal}
use Rattle.hist_entries.specs.HistEntries.{Entry}
use Rattle.hist_entries.specs.Hits.{Hit}
use Rattle.hist_entries.specs.PrintOrder.{entry_cmp, printed, sum_at}
use Rattle.hist_entries.specs.RowPlaces.{entry_keys}
use Rattle.trace_hist.specs.Groups.{with_key}
use Rattle.trace_command.specs.Requests.{Request}
use Rattle.tracer_specification.specs.HistTriggers.{HistTrigger, asked_by, empties, hits_of, table_of}
use Rattle.tracer_specification.specs.Laws.{some_later}
use Rattle.history_laws.specs.GroupedRows.{counted_rows, rows_before, total, total_of}

-- the rows that a trigger's table counted since it was made or last emptied
abbrev pub rows_of : Option (List ℕ) → HistTrigger → List Request → List Hit
rows_of instance t past = hits_of instance t.table past

-- and its entries
abbrev pub entries_of : Option (List ℕ) → HistTrigger → List Request → List Entry
entries_of instance t past = (table_of instance t past).entries

-- Hits and Dropped are together these rows, and the hitcounts are together Hits. Each sum of an entry is that of the rows with its key, and those of
-- all entries are together those of the rows whose keys have entries. There is room for each entry, and for no other where a row was
-- dropped. Entries that tie by the trigger's sort keys are printed in order of their first rows
pub record IsAccountedFor (instance : Option (List ℕ)) (t : HistTrigger) (past : List Request) : Type 0 where
  pub told : (table_of instance t past).hits + (table_of instance t past).dropped ≡ length (rows_of instance t past)
  pub hitcounts : sum_by (λ (entry : Entry). entry.hitcount) (entries_of instance t past) ≡ (table_of instance t past).hits
  pub sums : (index : ℕ) → index < length t.spec.value_sources
      → map (λ (entry : Entry). sum_at entry.sums index) (entries_of instance t past)
      ≡ map (λ key. total_of index (with_key key (rows_of instance t past))) (entry_keys (entries_of instance t past))
  pub all_sums : (index : ℕ) → index < length t.spec.value_sources
      → total (map (λ (entry : Entry). sum_at entry.sums index) (entries_of instance t past))
      ≡ total_of index (counted_rows t.spec.size (length t.spec.value_sources) (rows_of instance t past))
  pub fit : length (entries_of instance t past) ≤ t.spec.size
  pub full : 1 ≤ (table_of instance t past).dropped → length (entries_of instance t past) ≡ t.spec.size
  pub ties : let rows = rows_of instance t past in
      AllPairs (λ (entry later : Entry). entry_cmp t.spec.sort_sources entry later ≡ Equal → rows_before entry.key rows < rows_before later.key rows)
      (printed t.spec.sort_sources (entries_of instance t past))

abbrev pub HistogramsAreAccountedFor : Type 0
HistogramsAreAccountedFor = (instance : Option (List ℕ)) (t : HistTrigger) (past : List Request) → IsAccountedFor instance t past

-- as long as nobody asks for the table to be emptied, whatever else is done, a key that has an entry keeps it, in its place
abbrev pub HistogramsKeepTheirEntries : Type 0
HistogramsKeepTheirEntries =
    (instance : Option (List ℕ)) (t : HistTrigger) (later past : List Request)
    → some_later (λ before request. empties (asked_by instance t.table before request)) later past ≡ false
    → take (length (entries_of instance t past)) (entry_keys (entries_of instance t (later ++ past))) ≡ entry_keys (entries_of instance t past)
