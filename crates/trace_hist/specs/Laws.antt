-- What it comes to that a histogram stands for a list of rows.
use Rattle.std.specs.Prelude.{◌≡◌, List, length}
use Rattle.hist_entries.specs.Hits.{Hit}
use Rattle.trace_hist.specs.Groups.{grouped}
use Rattle.trace_hist.specs.Hists.{Seen, StandsFor, counted}

-- its entries and totals are those that the rows come to
abbrev pub TablesAreGrouped : Type 0
TablesAreGrouped = (hist : Seen) (rows : List Hit) → StandsFor hist rows → hist.table ≡ grouped hist.spec rows

-- it depends on the trigger and on what was counted alone
abbrev pub StandingIsOfTheTable : Type 0
StandingIsOfTheTable =
    (old new : Seen) (rows : List Hit) → new.spec ≡ old.spec → new.table ≡ old.table → StandsFor old rows → StandsFor new rows

-- as many rows were counted as the list has
abbrev pub CountedAreTheRows : Type 0
CountedAreTheRows = (hist : Seen) (rows : List Hit) → StandsFor hist rows → counted hist ≡ length rows
