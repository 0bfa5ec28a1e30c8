use Rattle.std.proofs.Common.{◌≡◌}
use Rattle.trace_trigger.specs.HistOffsets.{is_wrong_attribute, attribute_mistake, further_left, leftmost, attribute_mistakes}
use Rattle.trace_trigger.proofs.Mistakes.{leftmost_from}
use Rattle.trace_trigger.proofs.offset.wrong_attribute.Given as goal

-- the leftmost mistake found so far, and that of the rest
abbrev pub invariant-loop-index : goal.invariant-loop-index
invariant-loop-index l =
    further_left l.found (leftmost_from attribute_mistake is_wrong_attribute l.attributes l.index) ≡ leftmost (attribute_mistakes l.attributes)
