use Rattle.std.proofs.Common.{◌≡◌, drop}
use Rattle.std.specs.List.{find}
use Rattle.trace_trigger.specs.declared.attribute.Attribute.{Attribute}
use Rattle.trace_trigger.specs.HistLists.{is_same_topic}
use Rattle.trace_trigger.proofs.written_lists.first_about.Given as goal

abbrev pub invariant-loop-attribute : goal.invariant-loop-attribute
invariant-loop-attribute l = find (λ (attribute : Attribute). is_same_topic l.topic attribute.topic) l.attributes ≡ find (λ (attribute : Attribute). is_same_topic l.topic attribute.topic) (drop l.attribute-index l.attributes)
