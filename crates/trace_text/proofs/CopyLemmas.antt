-- The text of copies is that of what was copied.
use Rattle.std.proofs.Common.{◌≡◌, List, map, filter_map, codes, ap}
use Rattle.std.specs.List.{join_by}
use Rattle.trace_text.specs.CopiedHists.{copied_hist_text, shown_copy}
use Rattle.trace_text.specs.HistText.{hist_of, hist_text, one_hist}
use Rattle.trace_text.specs.TriggerText.{Trigger}
use Rattle.trace_text.specs.declared.hist.CopiedHist.{CopiedHist}

pub copied_hist_text-is : (hists : List CopiedHist) (triggers : List Trigger) → map shown_copy hists ≡ filter_map hist_of triggers
    → copied_hist_text hists ≡ hist_text triggers
unfolding copied_hist_text hist_text
copied_hist_text-is hists triggers same = ap (join_by one_hist (codes "\n")) same
