use Rattle.std.proofs.Common.{arith}
use Rattle.trace_trigger.specs.HistMeanings.{sort_rule}
use Rattle.trace_trigger.specs.HistSpecs.{key_names}
use Rattle.trace_trigger.proofs.Filling.{filled_more, filled_all}
use Rattle.trace_trigger.proofs.meaning.sort_rules.Goals as goal

pub loop-key-preserved : goal.loop-key-preserved
loop-key-preserved c = record {
  room = omega (arith, c.loop-key.invariant.room, c.loop-key-test.true, c.push_reserved.ensures.len, c.push_reserved.ensures.capacity);
  filled = filled_more (sort_rule (key_names c.args.keys.now) c.args.values.now) c.args.sort.now c.loop-key.key-index c.key-item.result _ _ _ c.loop-key-test.true c.key-item.is c.sort_rule.ensures
      c.push_reserved.ensures.items c.loop-key.invariant.filled;
}

pub returns : goal.returns
returns c = filled_all (sort_rule (key_names c.args.keys.now) c.args.values.now) c.args.sort.now c.loop-key.key-index _ c.loop-key-test.false c.loop-key.invariant.filled
