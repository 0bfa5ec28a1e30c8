use Rattle.std.proofs.Common.{◌≡◌, ◌++◌, map, drop}
use Rattle.std.specs.List.{filter_map}
use Rattle.trace_text.specs.CopiedHists.{shown_copy}
use Rattle.trace_text.specs.HistText.{hist_of}
use Rattle.trace_text.specs.ShownTriggers.{shown_trigger}
use Rattle.trace_text.proofs.hist.copy_hists.Given as goal

-- what was copied and what is left to copy are all
abbrev pub invariant-loop-trigger : goal.invariant-loop-trigger
invariant-loop-trigger l =
    map shown_copy l.hists.items ++ filter_map hist_of (map shown_trigger (drop l.trigger-index l.shown))
    ≡ filter_map hist_of (map shown_trigger l.shown)
