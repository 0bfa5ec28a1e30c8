-- What a copy of a histogram shows.
use Rattle.std.specs.Prelude.{◌≡◌, ℕ, Bool, List, length}
use Rattle.trace_trigger.specs.HistSpecs.{SpecSeen}
use Rattle.hist_entries.specs.HistEntries.{Entry}
use Rattle.trace_hist.specs.declared.totals.Totals.{Totals}
use Rattle.trace_hist.specs.Groups.{Table}
use Rattle.trace_hist.specs.Hists.{Seen}

-- its trigger, whether it was paused, its entries and totals
pub record Copied : Type 0 where
  pub spec : SpecSeen
  pub paused : Bool
  pub table : Table

-- a histogram's copy
abbrev pub copied : Seen → Copied
copied hist = record { spec = hist.spec; paused = hist.paused; table = hist.table }

-- ---- how it is kept

abbrev pub copied_of : SpecSeen → Bool → Totals → List Entry → Copied
copied_of spec paused totals entries = record {
  spec = spec;
  paused = paused;
  table = record { entries = entries; hits = totals.hits; dropped = totals.dropped };
}

-- the totals tell how many entries there are
abbrev pub IsCounted : Totals → List Entry → Type 0
IsCounted totals entries = totals.entries ≡ length entries
