use Rattle.std.proofs.Common.{sym}
use Rattle.trace_trigger.specs.declared.attribute.Attribute.{Attribute}
use Rattle.trace_trigger.specs.HistLists.{is_same_topic}
use Rattle.trace_trigger.proofs.Looking.{find_here, find_later, find_none}
use Rattle.trace_trigger.proofs.written_lists.first_about.Goals as goal

pub returns-then-is_same_topic-clause-value : goal.returns-then-is_same_topic-clause-value
returns-then-is_same_topic-clause-value c =
    find_here (λ (attribute : Attribute). is_same_topic c.args.topic attribute.topic) c.args.attributes.now c.loop-attribute.attribute-index c.attribute-item.result c.loop-attribute-test.true c.attribute-item.is (sym c.if-is_same_topic.ensures) c.loop-attribute.invariant

pub loop-attribute-preserved : goal.loop-attribute-preserved
loop-attribute-preserved c =
    find_later (λ (attribute : Attribute). is_same_topic c.args.topic attribute.topic) c.args.attributes.now c.loop-attribute.attribute-index c.attribute-item.result c.loop-attribute-test.true c.attribute-item.is (sym c.if-is_same_topic.ensures) c.loop-attribute.invariant

pub returns-clause-value : goal.returns-clause-value
returns-clause-value c = find_none (λ (attribute : Attribute). is_same_topic c.args.topic attribute.topic) c.args.attributes.now c.loop-attribute.attribute-index c.loop-attribute-test.false c.loop-attribute.invariant
