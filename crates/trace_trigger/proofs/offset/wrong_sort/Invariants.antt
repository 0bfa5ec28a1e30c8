use Rattle.std.proofs.Common.{◌≡◌}
use Rattle.trace_trigger.specs.HistOffsets.{is_wrong_sort, sort_mistake, further_left, leftmost, sort_mistakes}
use Rattle.trace_trigger.proofs.Mistakes.{leftmost_from}
use Rattle.trace_trigger.proofs.offset.wrong_sort.Given as goal

-- the leftmost mistake found so far, and that of the rest
abbrev pub invariant-loop-index : goal.invariant-loop-index
invariant-loop-index l =
    further_left l.found (leftmost_from sort_mistake (is_wrong_sort l.written) l.written.sort l.index) ≡ leftmost (sort_mistakes l.written)
