use Rattle.std.proofs.Common.{arith}
use Rattle.trace_trigger.specs.declared.piece.ListItem.{ListItem}
use Rattle.trace_trigger.proofs.Filling.{filled_more, filled_all}
use Rattle.trace_trigger.proofs.meaning.names_of.Goals as goal

pub loop-item-preserved : goal.loop-item-preserved
loop-item-preserved c = record {
  room = omega (arith, c.loop-item.invariant.room, c.loop-item-test.true, c.push_reserved.ensures.len, c.push_reserved.ensures.capacity);
  filled = filled_more (λ (item : ListItem). item.bytes) c.args.items.now c.loop-item.item-index c.item-item.result _ _ _ c.loop-item-test.true c.item-item.is c.in_ok-clone.ensures.cases
      c.push_reserved.ensures.items c.loop-item.invariant.filled;
}

pub returns : goal.returns
returns c = filled_all (λ (item : ListItem). item.bytes) c.args.items.now c.loop-item.item-index _ c.loop-item-test.false c.loop-item.invariant.filled
