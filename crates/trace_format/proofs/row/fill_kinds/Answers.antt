use Rattle.std.proofs.Common.{arith}
use Rattle.trace_format.proofs.LoopLemmas.{kind_more, kinds_done}
use Rattle.trace_format.proofs.row.fill_kinds.Goals as goal

pub loop-field-preserved : goal.loop-field-preserved
loop-field-preserved c = (
  omega (arith, c.loop-field.invariant.0, c.loop-field-test.true, c.push_reserved.ensures.len, c.push_reserved.ensures.capacity),
  rw c.push_reserved.ensures.items (kind_more c.args.fields.now c.loop-field.field-index c.field-item.result c.loop-field.kinds.items c.loop-field-test.true c.field-item.is c.loop-field.invariant.1),
)

pub returns : goal.returns
returns c = kinds_done c.args.fields.now c.loop-field.field-index c.loop-field.kinds.items c.loop-field-test.false c.loop-field.invariant.1
