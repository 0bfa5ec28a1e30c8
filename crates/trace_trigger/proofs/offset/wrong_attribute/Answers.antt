use Rattle.std.proofs.Common.{Some, ap, sym, ◌∙◌}
use Rattle.trace_trigger.specs.declared.fault.HistCause.{HistCause}
use Rattle.trace_trigger.specs.HistOffsets.{is_wrong_attribute, attribute_mistake, further_left}
use Rattle.trace_trigger.proofs.Mistakes.{wrong_step, right_step, from_end}
use Rattle.trace_trigger.proofs.offset.wrong_attribute.Goals.{then-is_wrong_attribute, else-is_wrong_attribute}
use Rattle.trace_trigger.proofs.offset.wrong_attribute.Goals as goal

pub loop-index-preserved : goal.loop-index-preserved
loop-index-preserved c = elim c.if-is_wrong_attribute.branch [
  | then-is_wrong_attribute w ↦ wrong_step attribute_mistake is_wrong_attribute c.args.attributes.now c.loop-index.index c.index-attributes-index.result c.loop-index.found c.if-is_wrong_attribute.found _ c.loop-index-test.true c.index-attributes-index.is (sym c.is_wrong_attribute.ensures ∙ w.if-is_wrong_attribute.true) (w.found-is ∙ w.further_left-found.ensures
      ∙ ap (λ (why : HistCause). further_left c.loop-index.found (Some (record { at = c.index-attributes-index.result.at; cause = why }))) w.attribute_cause.ensures) c.loop-index.invariant
  | else-is_wrong_attribute w ↦ right_step attribute_mistake is_wrong_attribute c.args.attributes.now c.loop-index.index c.index-attributes-index.result c.loop-index.found c.if-is_wrong_attribute.found _ c.loop-index-test.true c.index-attributes-index.is (sym c.is_wrong_attribute.ensures ∙ w.if-is_wrong_attribute.false) w.found-is c.loop-index.invariant
]

pub returns : goal.returns
returns c = from_end attribute_mistake is_wrong_attribute c.args.attributes.now c.loop-index.index c.loop-index.found _ c.loop-index-test.false c.loop-index.invariant
