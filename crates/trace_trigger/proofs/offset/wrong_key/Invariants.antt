use Rattle.std.proofs.Common.{◌≡◌}
use Rattle.trace_trigger.specs.HistOffsets.{is_wrong_key, key_mistake, further_left, leftmost, key_mistakes}
use Rattle.trace_trigger.proofs.Mistakes.{leftmost_from}
use Rattle.trace_trigger.proofs.offset.wrong_key.Given as goal

-- the leftmost mistake found so far, and that of the rest
abbrev pub invariant-loop-index : goal.invariant-loop-index
invariant-loop-index l =
    further_left l.found (leftmost_from key_mistake is_wrong_key l.keys l.index) ≡ leftmost (key_mistakes l.keys)
