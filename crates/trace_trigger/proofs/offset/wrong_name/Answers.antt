use Rattle.std.proofs.Common.{sym, ◌∙◌}
use Rattle.trace_trigger.specs.declared.attribute.Attribute.{Attribute}
use Rattle.trace_trigger.specs.HistOffsets.{is_bad_name, name_mistake}
use Rattle.trace_trigger.proofs.Mistakes.{wrong_step, right_step, from_end}
use Rattle.trace_trigger.proofs.offset.wrong_name.Goals.{then-is_bad_name, else-is_bad_name}
use Rattle.trace_trigger.proofs.offset.wrong_name.Goals as goal

pub loop-attribute-preserved : goal.loop-attribute-preserved
loop-attribute-preserved c = elim c.if-is_bad_name.branch [
  | then-is_bad_name w ↦ wrong_step name_mistake (λ _ (attribute : Attribute). is_bad_name attribute) c.args.attributes.now c.loop-attribute.attribute-index c.attribute-item.result c.loop-attribute.found c.if-is_bad_name.found _ c.loop-attribute-test.true c.attribute-item.is (sym c.is_bad_name.ensures ∙ w.if-is_bad_name.true) (w.found-is ∙ w.further_left-found.ensures) c.loop-attribute.invariant
  | else-is_bad_name w ↦ right_step name_mistake (λ _ (attribute : Attribute). is_bad_name attribute) c.args.attributes.now c.loop-attribute.attribute-index c.attribute-item.result c.loop-attribute.found c.if-is_bad_name.found _ c.loop-attribute-test.true c.attribute-item.is (sym c.is_bad_name.ensures ∙ w.if-is_bad_name.false) w.found-is c.loop-attribute.invariant
]

pub returns : goal.returns
returns c = from_end name_mistake (λ _ (attribute : Attribute). is_bad_name attribute) c.args.attributes.now c.loop-attribute.attribute-index c.loop-attribute.found _ c.loop-attribute-test.false c.loop-attribute.invariant
