use Rattle.std.proofs.Common.{arith}
use Rattle.trace_trigger.specs.HistAttributes.{attribute_of}
use Rattle.trace_trigger.proofs.Filling.{filled_more, filled_all}
use Rattle.trace_trigger.proofs.attribute.attributes_of.Goals as goal

pub loop-piece-preserved : goal.loop-piece-preserved
loop-piece-preserved c = record {
  room = omega (arith, c.loop-piece.invariant.room, c.loop-piece-test.true, c.push_reserved.ensures.len, c.push_reserved.ensures.capacity);
  filled = filled_more attribute_of c.args.pieces.now c.loop-piece.piece-index c.piece-item.result _ _ _ c.loop-piece-test.true c.piece-item.is c.in_ok-attribute_of.ensures
      c.push_reserved.ensures.items c.loop-piece.invariant.filled;
}

pub returns : goal.returns
returns c = filled_all attribute_of c.args.pieces.now c.loop-piece.piece-index _ c.loop-piece-test.false c.loop-piece.invariant.filled
