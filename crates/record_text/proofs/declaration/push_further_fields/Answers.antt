use Rattle.trace_format.proofs.LoopLemmas.{left}
use Rattle.record_text.proofs.LoopLemmas.{field_more}
use Rattle.record_text.proofs.declaration.push_further_fields.Goals as goal

pub loop-field-preserved : goal.loop-field-preserved
loop-field-preserved c =
    let first = left c.args.fields.now c.loop-field.field-index c.field-item.result c.loop-field-test.true c.field-item.is in
    field_more c.field-item.result _ _ _ _ _ _ first c.in_ok-push.ensures.text c.in_ok-push_field.ensures c.loop-field.invariant
