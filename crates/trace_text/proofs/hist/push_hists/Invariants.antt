use Rattle.std.proofs.Common.{◌≡◌, ℕ, Bool, true, false, List, ◌++◌, codes, map, drop}
use Rattle.std.specs.List.{flat_map, join_by}
use Rattle.trace_text.specs.CopiedHists.{shown_copy}
use Rattle.trace_text.specs.HistText.{one_hist}
use Rattle.trace_text.specs.TriggerText.{ShownHist}
use Rattle.trace_text.proofs.hist.push_hists.Given as goal

-- what is left to write of histograms: by whether none was written yet
abbrev pub left_to_write : Bool → List ShownHist → List ℕ
left_to_write true hists = join_by one_hist (codes "\n") hists
left_to_write false hists = flat_map (λ hist. codes "\n" ++ one_hist hist) hists

-- what was written and what is left to write are all
abbrev pub invariant-loop-hist : goal.invariant-loop-hist
invariant-loop-hist l =
    l.out.items ++ left_to_write l.is_first (map shown_copy (drop l.hist-index l.hists))
    ≡ l.initial.out.items ++ join_by one_hist (codes "\n") (map shown_copy l.hists)
