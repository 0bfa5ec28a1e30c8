-- Copies of hist triggers and their histograms, and the text of an event's `hist` file that is made of them.
use Rattle.std.specs.Prelude.{ℕ, List, map, codes}
use Rattle.std.specs.List.{join_by}
use Rattle.trace_trigger.specs.HistSpecs.{SpecSeen}
use Rattle.trace_hist.specs.HistCopies.{Copied}
use Rattle.trace_text.specs.HistText.{one_hist}
use Rattle.trace_text.specs.TriggerText.{ShownHist}
use Rattle.trace_text.specs.declared.hist.CopiedHist.{CopiedHist}

-- what one shows
abbrev pub shown_with : SpecSeen → Copied → ShownHist
shown_with spec hist = record { spec = spec; paused = hist.paused; table = hist.table; rules = hist.spec.sort_sources }

abbrev pub shown_copy : CopiedHist → ShownHist
shown_copy c = shown_with c.spec c.hist

-- the histograms in this order, with an empty line between each two
unfoldable pub copied_hist_text : List CopiedHist → List ℕ
copied_hist_text hists = join_by one_hist (codes "\n") (map shown_copy hists)
