-- The worked tables, computed.
use Rattle.std.proofs.Common.{◌≡◌, ℕ, ap, ◌∙◌, List, length}
use Rattle.hist_entries.specs.Hits.{Hit}
use Rattle.trace_hist.specs.Groups.{Table, group, grouped}
use Rattle.trace_hist.specs.GroupExamples.{HasTable}
use Rattle.trace_hist.specs.Hists.{StandsFor}

-- a histogram's table is computed from the rows, its size and its number of sums
pub has_table : (size width : ℕ) (rows : List Hit) (table : Table) → group size width rows ≡ table → HasTable size width rows table
unfolding StandsFor grouped
has_table size width rows table computed hist sized wide stands =
    stands ∙ ap (λ n. group n (length hist.spec.value_sources) rows) sized ∙ ap (λ n. group size n rows) wide ∙ computed
