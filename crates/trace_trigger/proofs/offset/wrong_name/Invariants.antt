use Rattle.std.proofs.Common.{◌≡◌}
use Rattle.trace_trigger.specs.declared.attribute.Attribute.{Attribute}
use Rattle.trace_trigger.specs.HistOffsets.{is_bad_name, name_mistake, further_left, leftmost, name_mistakes}
use Rattle.trace_trigger.proofs.Mistakes.{leftmost_from}
use Rattle.trace_trigger.proofs.offset.wrong_name.Given as goal

-- the leftmost mistake found so far, and that of the rest
abbrev pub invariant-loop-attribute : goal.invariant-loop-attribute
invariant-loop-attribute l =
    further_left l.found (leftmost_from name_mistake (λ _ (attribute : Attribute). is_bad_name attribute) l.attributes l.attribute-index)
    ≡ leftmost (name_mistakes l.attributes)
