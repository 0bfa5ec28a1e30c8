use Rattle.std.proofs.Common.{Some, ap, sym, ◌∙◌}
use Rattle.trace_trigger.specs.declared.offset.Mistake.{Mistake}
use Rattle.trace_trigger.specs.HistOffsets.{is_wrong_value, value_mistake, further_left}
use Rattle.trace_trigger.proofs.Mistakes.{wrong_step, right_step, from_end}
use Rattle.trace_trigger.proofs.offset.wrong_value.Goals.{then-is_wrong_value, else-is_wrong_value}
use Rattle.trace_trigger.proofs.offset.wrong_value.Goals as goal

pub loop-index-preserved : goal.loop-index-preserved
loop-index-preserved c = elim c.if-is_wrong_value.branch [
  | then-is_wrong_value w ↦ wrong_step value_mistake is_wrong_value c.args.values.now c.loop-index.index c.index-values-index.result c.loop-index.found c.if-is_wrong_value.found _ c.loop-index-test.true c.index-values-index.is (sym c.is_wrong_value.ensures ∙ w.if-is_wrong_value.true) (w.found-is ∙ w.further_left-found.ensures ∙ ap (λ (m : Mistake). further_left c.loop-index.found (Some m)) w.value_mistake.ensures) c.loop-index.invariant
  | else-is_wrong_value w ↦ right_step value_mistake is_wrong_value c.args.values.now c.loop-index.index c.index-values-index.result c.loop-index.found c.if-is_wrong_value.found _ c.loop-index-test.true c.index-values-index.is (sym c.is_wrong_value.ensures ∙ w.if-is_wrong_value.false) w.found-is c.loop-index.invariant
]

pub returns : goal.returns
returns c = from_end value_mistake is_wrong_value c.args.values.now c.loop-index.index c.loop-index.found _ c.loop-index-test.false c.loop-index.invariant
