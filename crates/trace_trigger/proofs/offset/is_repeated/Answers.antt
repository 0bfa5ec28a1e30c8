use Rattle.std.proofs.Common.{sym}
use Rattle.trace_trigger.specs.declared.attribute.Attribute.{Attribute}
use Rattle.trace_trigger.specs.HistLists.{is_same_topic}
use Rattle.trace_trigger.proofs.Looking.{any_here, any_later, any_none}
use Rattle.trace_trigger.proofs.offset.is_repeated.Goals as goal

pub returns-then-is_same_topic : goal.returns-then-is_same_topic
returns-then-is_same_topic c =
    any_here (λ (other : Attribute). is_same_topic other.topic c.args.attribute.now.topic) c.args.before.now c.loop-other.other-index c.other-item.result c.loop-other-test.true c.other-item.is (sym c.if-is_same_topic.ensures) c.loop-other.invariant

pub loop-other-preserved : goal.loop-other-preserved
loop-other-preserved c =
    any_later (λ (other : Attribute). is_same_topic other.topic c.args.attribute.now.topic) c.args.before.now c.loop-other.other-index c.other-item.result c.loop-other-test.true c.other-item.is (sym c.if-is_same_topic.ensures) c.loop-other.invariant

pub returns : goal.returns
returns c = any_none (λ (other : Attribute). is_same_topic other.topic c.args.attribute.now.topic) c.args.before.now c.loop-other.other-index c.loop-other-test.false c.loop-other.invariant
