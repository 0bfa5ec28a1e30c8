-- The text of an event's `hist` file (histogram.rst, "hist triggers"): each hist trigger with its entries and totals.
use Rattle.std.specs.Prelude.{ℕ, List, ◌++◌, length, Option, None, Some, codes}
use Rattle.std.specs.Fmt.{decimal}
use Rattle.std.specs.List.{flat_map, filter_map, join_by}
use Rattle.trace_hist.specs.Groups.{Table}
use Rattle.hist_entries.specs.PrintOrder.{printed}
use Rattle.trace_text.specs.EntryText.{entry_line}
use Rattle.trace_text.specs.TriggerText.{ShownHist, Trigger, Snapshot, Hist, hist_line}

-- the trigger, and an empty line
unfoldable pub hist_head : ShownHist → List ℕ
hist_head shown = codes "# event histogram\n#\n# trigger info: " ++ hist_line shown.spec shown.paused ++ codes "\n#\n\n"

unfoldable pub total_line : List ℕ → ℕ → List ℕ
total_line name count = codes "    " ++ name ++ codes ": " ++ decimal count ++ codes "\n"

unfoldable pub totals_text : Table → List ℕ
totals_text table =
    codes "Totals:\n" ++ total_line (codes "Hits") table.hits ++ total_line (codes "Entries") (length table.entries)
    ++ total_line (codes "Dropped") table.dropped

-- a histogram: the trigger, its entries in print order, an empty line, and the totals
unfoldable pub one_hist : ShownHist → List ℕ
one_hist shown =
    hist_head shown ++ flat_map (entry_line shown.spec.keys shown.spec.values) (printed shown.rules shown.table.entries)
    ++ codes "\n" ++ totals_text shown.table

abbrev pub hist_of : Trigger → Option ShownHist
hist_of (Snapshot left filter) = None
hist_of (Hist shown) = Some shown

-- the histograms of the hist triggers, in the order in which they were attached, with an empty line between each two; nothing without one
unfoldable pub hist_text : List Trigger → List ℕ
hist_text triggers = join_by one_hist (codes "\n") (filter_map hist_of triggers)
