use Rattle.std.proofs.Common.{◌≡◌}
use Rattle.trace_trigger.specs.HistOffsets.{is_wrong_value, value_mistake, further_left, leftmost, value_mistakes}
use Rattle.trace_trigger.proofs.Mistakes.{leftmost_from}
use Rattle.trace_trigger.proofs.offset.wrong_value.Given as goal

-- the leftmost mistake found so far, and that of the rest
abbrev pub invariant-loop-index : goal.invariant-loop-index
invariant-loop-index l =
    further_left l.found (leftmost_from value_mistake is_wrong_value l.values l.index) ≡ leftmost (value_mistakes l.values)
