use Rattle.std.proofs.Common.{Some, ap, sym, ◌∙◌}
use Rattle.trace_trigger.specs.declared.offset.Mistake.{Mistake}
use Rattle.trace_trigger.specs.HistOffsets.{is_wrong_key, key_mistake, further_left}
use Rattle.trace_trigger.proofs.Mistakes.{wrong_step, right_step, from_end}
use Rattle.trace_trigger.proofs.offset.wrong_key.Goals.{then-is_wrong_key, else-is_wrong_key}
use Rattle.trace_trigger.proofs.offset.wrong_key.Goals as goal

pub loop-index-preserved : goal.loop-index-preserved
loop-index-preserved c = elim c.if-is_wrong_key.branch [
  | then-is_wrong_key w ↦ wrong_step key_mistake is_wrong_key c.args.keys.now c.loop-index.index c.index-keys-index.result c.loop-index.found c.if-is_wrong_key.found _ c.loop-index-test.true c.index-keys-index.is (sym c.is_wrong_key.ensures ∙ w.if-is_wrong_key.true) (w.found-is ∙ w.further_left-found.ensures ∙ ap (λ (m : Mistake). further_left c.loop-index.found (Some m)) w.key_mistake.ensures) c.loop-index.invariant
  | else-is_wrong_key w ↦ right_step key_mistake is_wrong_key c.args.keys.now c.loop-index.index c.index-keys-index.result c.loop-index.found c.if-is_wrong_key.found _ c.loop-index-test.true c.index-keys-index.is (sym c.is_wrong_key.ensures ∙ w.if-is_wrong_key.false) w.found-is c.loop-index.invariant
]

pub returns : goal.returns
returns c = from_end key_mistake is_wrong_key c.args.keys.now c.loop-index.index c.loop-index.found _ c.loop-index-test.false c.loop-index.invariant
