-- How this crate keeps what a histogram has counted: a table of entries, of which the first are shown, and two counts.
use Rattle.std.specs.Prelude.{ℕ, ◌≤◌, Bool, length, take, drop}
use Rattle.trace_trigger.specs.HistSpecs.{SpecSeen}
use Rattle.trace_hist.specs.declared.counts.Counts.TheInside.{Inside}
use Rattle.hist_entries.specs.RowPlaces.{Place}
use Rattle.hist_entries.specs.KeptEntries.{entries_in, place_in, IsEnd, AreCounted}
use Rattle.trace_hist.specs.Groups.{Table}
use Rattle.trace_hist.specs.Hists.{Seen}

-- what a histogram has counted, with room for so many entries of so many sums
pub record Kept : Type 0 where
  pub size : ℕ
  pub width : ℕ
  pub table : Table
  pub next : Place

-- ---- the counts

abbrev pub seen : Inside → Kept
seen c = record {
  size = c.kept.size;
  width = c.kept.width;
  table = record { entries = take c.kept.shown (entries_in c.kept.entries.entries); hits = c.hits; dropped = c.dropped };
  next = place_in (entries_in c.kept.entries.entries) c.next;
}

pub record IsSound (c : Inside) : Type 0 where
  pub shown : c.kept.shown ≤ length c.kept.entries.entries
  pub size : length c.kept.entries.entries ≤ c.kept.size
  pub end : IsEnd c.kept.width (drop c.kept.shown (entries_in c.kept.entries.entries))
  pub rows : AreCounted c.hits (entries_in c.kept.entries.entries)

-- ---- the histogram

abbrev pub seen_of : SpecSeen → Bool → Kept → Seen
seen_of spec paused counts = record { spec = spec; paused = paused; table = counts.table; next = counts.next }
