use Rattle.std.proofs.Common.{◌≡◌, drop}
use Rattle.std.specs.List.{list_any}
use Rattle.trace_trigger.specs.declared.attribute.Attribute.{Attribute}
use Rattle.trace_trigger.specs.HistLists.{is_same_topic}
use Rattle.trace_trigger.proofs.offset.is_repeated.Given as goal

abbrev pub invariant-loop-other : goal.invariant-loop-other
invariant-loop-other l = list_any (λ (other : Attribute). is_same_topic other.topic l.attribute.topic) l.before ≡ list_any (λ (other : Attribute). is_same_topic other.topic l.attribute.topic) (drop l.other-index l.before)
