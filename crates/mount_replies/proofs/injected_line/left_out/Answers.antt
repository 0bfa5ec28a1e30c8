use Rattle.std.proofs.Common.{arith}
use Rattle.mount_replies.proofs.LineLemmas.{all_left, one_more}
use Rattle.mount_replies.proofs.injected_line.left_out.Goals as goal

pub loop-field-preserved : goal.loop-field-preserved
loop-field-preserved c =
    one_more _ _ _ _ c.args.fields.now c.loop-field.field-index c.field-item.result (omega arith) c.field-item.is c.in_ok-push_if_left_out.ensures c.loop-field.invariant

pub returns : goal.returns
returns c = all_left _ _ _ c.args.fields.now c.loop-field.field-index (omega arith) c.loop-field.invariant
