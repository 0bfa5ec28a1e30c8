use Rattle.std.proofs.Common.{arith}
use Rattle.trace_format.proofs.LoopLemmas.{one_more, all_taken}
use Rattle.trace_format.proofs.borrowed_pair.borrowed.Goals as goal

pub loop-pair-preserved : goal.loop-pair-preserved
loop-pair-preserved c = (
  omega (arith, c.loop-pair.invariant.0, c.loop-pair-test.true, c.push_reserved.ensures.len, c.push_reserved.ensures.capacity),
  rw (c.push_reserved.ensures.items, c.of.ensures) (one_more c.args.pairs.now c.loop-pair.pair-index c.pair-item.result c.loop-pair.list.items c.loop-pair-test.true c.pair-item.is c.loop-pair.invariant.1),
)

pub returns : goal.returns
returns c = all_taken c.args.pairs.now c.loop-pair.pair-index c.loop-pair.list.items c.loop-pair-test.false c.loop-pair.invariant.1
